use Rattle.std.proofs.Common.{◌≡◌, ℕ, ◌<◌, ◌||◌, length, take, slice_get}
use Rattle.std.specs.List.{list_any}
use Rattle.mon_notify.specs.Places.{is_named, names, passes}
use Rattle.mon_notify.proofs.escalations.name_all.Given as goal

abbrev pub invariant-loop-place : goal.invariant-loop-place
invariant-loop-place l = record {
  count : length l.named.marks.items ≡ length l.fn.named.marks.items;
  named : (c : ℕ) → c < length l.fn.named.marks.items → is_named l.named c ≡ (is_named l.fn.named c || list_any (λ n. passes (names l.asked c) (slice_get l.escalations n)) (take l.place-index l.places));
}
