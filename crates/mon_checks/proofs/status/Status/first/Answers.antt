use Rattle.std.proofs.Common.{refl}
use Rattle.mon_checks.proofs.status.Status.first.Goals as goal

pub returns-clause-first : goal.returns-clause-first
returns-clause-first c = refl
