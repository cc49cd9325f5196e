use Rattle.std.proofs.Common.{◌≡◌, filter}
use Rattle.std.specs.List.{range_with_len}
use Rattle.mon_notify.specs.Recipients.{is_told}
use Rattle.mon_notify.proofs.contacts.recipients.Given as goal

abbrev pub invariant-loop-contact : goal.invariant-loop-contact
invariant-loop-contact l =
    l.told.items ≡ filter (is_told l.inventory l.switches l.object l.number l.topic.letter l.escalate) (range_with_len 0 l.contact)
