use Rattle.std.proofs.Common.{sym, ◌∙◌}
use Rattle.mon_notify.proofs.custom.custom_candidates.Goals as goal

pub returns-then-is_broadcast : goal.returns-then-is_broadcast
returns-then-is_broadcast c = rw (sym c.is_broadcast.ensures ∙ c.if-is_broadcast.true) c.all_contacts.ensures
