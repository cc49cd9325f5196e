use Rattle.std.proofs.Common.{refl}
use Rattle.mon_downtime.proofs.DepthLemmas.{depths_grown}
use Rattle.mon_downtime.proofs.depths.Depths.reserve_all.Goals as goal

pub returns-clause-depths : goal.returns-clause-depths
returns-clause-depths c = λ ds. depths_grown ds c.args.self.now _ c.reserve_depths.ensures.same c.reserve_depths.ensures.more refl
