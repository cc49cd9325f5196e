use Rattle.std.proofs.Common.{refl, arith}
use Rattle.mon_downtime.proofs.WaitLemmas.{rings_grown}
use Rattle.mon_downtime.proofs.rings.Rings.reserve.Goals as goal

pub returns-clause-rings : goal.returns-clause-rings
returns-clause-rings c = λ ds out. rings_grown ds out c.args.self.now _ c.reserve.ensures.items (λ o. refl) (omega arith)
