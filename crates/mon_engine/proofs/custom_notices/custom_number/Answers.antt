use Rattle.std.proofs.Common.{refl}
use Rattle.mon_engine.proofs.custom_notices.custom_number.Goals as goal

pub returns-then-increments : goal.returns-then-increments
returns-then-increments c = rw (← c.increments.ensures, c.if-increments.true) refl
