use Rattle.std.proofs.Common.{rules}
use Rattle.mon_notify.proofs.viable.recovery_viable.Goals as goal

pub returns-then-is_open : goal.returns-then-is_open
returns-then-is_open c = search rules
