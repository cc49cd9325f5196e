use Rattle.std.proofs.Common.{refl, le-leb}
use Rattle.mon_downtime.proofs.problem.is_open.Goals as goal

pub returns-then-d-clock : goal.returns-then-d-clock
returns-then-d-clock c = rw (← c.in-Some.ensures, le-leb _ _ c.if-d-clock.true) refl
