use Rattle.std.proofs.Common.{rules}
use Rattle.mon_notify.proofs.custom.custom_viable.Goals as goal

pub returns-else-is_forced : goal.returns-else-is_forced
returns-else-is_forced c = search rules
