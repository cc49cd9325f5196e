use Rattle.std.proofs.Common.{◌≡◌, false, take}
use Rattle.std.specs.List.{list_any}
use Rattle.mon_notify.specs.Ends.{is_within_reach}
use Rattle.mon_notify.proofs.ends.reaches_one.Given as goal

abbrev pub invariant-loop-contact : goal.invariant-loop-contact
invariant-loop-contact l = list_any (is_within_reach l.inventory l.switches l.object) (take l.contact-index l.owed) ≡ false
