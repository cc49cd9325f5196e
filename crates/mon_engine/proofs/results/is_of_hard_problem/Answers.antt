use Rattle.std.proofs.Common.{ne_eqb, refl}
use Rattle.mon_engine.proofs.results.is_of_hard_problem.Goals as goal

pub returns-then-status-ne0 : goal.returns-then-status-ne0
returns-then-status-ne0 c = rw (ne_eqb _ _ c.if-status-ne0.true) refl
