use Rattle.std.proofs.Common.{refl}
use Rattle.mon_engine.proofs.acknowledgements.acknowledgement_of.Goals as goal

pub returns-then-sticky-eq2 : goal.returns-then-sticky-eq2
returns-then-sticky-eq2 c = rw c.if-sticky-eq2.true refl
