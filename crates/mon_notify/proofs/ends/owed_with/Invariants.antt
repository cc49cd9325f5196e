use Rattle.std.proofs.Common.{◌≡◌, filter}
use Rattle.std.specs.List.{range_with_len}
use Rattle.mon_notify.specs.Ends.{is_owed_with}
use Rattle.mon_notify.proofs.ends.owed_with.Given as goal

abbrev pub invariant-loop-contact : goal.invariant-loop-contact
invariant-loop-contact l = l.all.items ≡ filter (is_owed_with l.inventory l.object l.owed l.notified) (range_with_len 0 l.contact)
