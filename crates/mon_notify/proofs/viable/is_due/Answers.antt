use Rattle.std.proofs.Common.{rules}
use Rattle.mon_notify.proofs.viable.is_due.Goals as goal

pub returns-then-other_state : goal.returns-then-other_state
returns-then-other_state c = search rules
