use Rattle.std.proofs.Common.{refl}
use Rattle.mon_inventory.proofs.fault.Cause.number.Goals as goal

pub returns-in-Duplicate-clause-value : goal.returns-in-Duplicate-clause-value
returns-in-Duplicate-clause-value c = rw c.in-Duplicate.is refl
