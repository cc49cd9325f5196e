use Rattle.std.proofs.Common.{rules}
use Rattle.mon_notify.proofs.contacts.takes.Goals as goal

pub returns-then-is_on : goal.returns-then-is_on
returns-then-is_on c = search rules
