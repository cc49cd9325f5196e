use Rattle.std.proofs.Common.{◌≡◌, false, take}
use Rattle.std.specs.List.{list_any}
use Rattle.mon_notify.specs.Ends.{hears}
use Rattle.mon_notify.proofs.ends.one_hears.Given as goal

abbrev pub invariant-loop-contact : goal.invariant-loop-contact
invariant-loop-contact l = list_any (hears l.inventory l.object) (take l.contact-index l.contacts) ≡ false
