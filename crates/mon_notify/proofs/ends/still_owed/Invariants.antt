use Rattle.std.proofs.Common.{◌≡◌, filter}
use Rattle.std.specs.List.{range_with_len}
use Rattle.mon_notify.specs.Ends.{is_still_owed}
use Rattle.mon_notify.proofs.ends.still_owed.Given as goal

abbrev pub invariant-loop-contact : goal.invariant-loop-contact
invariant-loop-contact l = l.still.items ≡ filter (is_still_owed l.inventory l.object l.owed) (range_with_len 0 l.contact)
