use Rattle.std.proofs.Common.{◌≡◌, ℕ, ◌<◌, ◌||◌, length, take}
use Rattle.mon_notify.specs.Escalations.{has_contact}
use Rattle.mon_notify.specs.Places.{is_named}
use Rattle.mon_notify.proofs.named.Named.add.Given as goal

abbrev pub invariant-loop-contact : goal.invariant-loop-contact
invariant-loop-contact l = record {
  count : length l.self.marks.items ≡ length l.fn.self.marks.items;
  named : (c : ℕ) → c < length l.fn.self.marks.items → is_named l.self c ≡ (is_named l.fn.self c || has_contact c (take l.contact-index l.contacts));
}
