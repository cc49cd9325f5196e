use Rattle.std.proofs.Common.{refl}
use Rattle.mon_downtime.proofs.WaitLemmas.{rings_grown}
use Rattle.mon_downtime.proofs.rings.Rings.reserve_end.Goals as goal

pub returns-clause-rings : goal.returns-clause-rings
returns-clause-rings c = λ ds out. rings_grown ds out c.args.self.now _ refl c.grow_ends.ensures.same c.grow_ends.ensures.more
