use Rattle.std.proofs.Common.{rules}
use Rattle.mon_notify.proofs.viable.is_open.Goals as goal

pub returns-then-facts-eq0 : goal.returns-then-facts-eq0
returns-then-facts-eq0 c = search rules
