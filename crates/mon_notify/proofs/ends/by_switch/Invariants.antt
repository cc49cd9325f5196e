use Rattle.std.proofs.Common.{◌≡◌, take}
use Rattle.mon_notify.specs.Ends.{missed, reached}
use Rattle.mon_notify.proofs.ends.by_switch.Given as goal

abbrev pub invariant-loop-contact : goal.invariant-loop-contact
invariant-loop-contact l = record {
  reached : l.reached.items ≡ reached l.inventory l.switches l.object (take l.contact-index l.owed);
  missed : l.missed.items ≡ missed l.inventory l.switches l.object (take l.contact-index l.owed);
}
