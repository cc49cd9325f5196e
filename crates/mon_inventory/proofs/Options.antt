-- Option letters, gathered item by item.
use Rattle.std.proofs.Common.{◌≡◌, ℕ, Bool, true, false, ◌||◌, codes, List, [], ◌∷◌, refl}
use Rattle.std.proofs.Math.Bool.{or-false}
use Rattle.std.specs.List.{list_any}
use Rattle.std.specs.Str.{bytes_eq}
use Rattle.mon_inventory.specs.declared.letters.Letters.{Letters}
use Rattle.mon_inventory.specs.Seen.{named_too}

abbrev pub no_letters : Letters
no_letters = record { w = false; u = false; c = false; d = false; r = false; s = false }

by_parts : (a b c : Bool) → ((a || (b || false)) || c) ≡ (a || (b || c))
by_parts true b c = refl
by_parts false true c = refl
by_parts false false c = refl

-- one item and then others
pub item_named : (l : Letters) (item : List ℕ) (items : List (List ℕ)) → named_too (named_too l (item ∷ [])) items ≡ named_too l (item ∷ items)
item_named l item items = rw (
  by_parts l.w (bytes_eq (codes "w") item) (list_any (bytes_eq (codes "w")) items),
  by_parts l.u (bytes_eq (codes "u") item) (list_any (bytes_eq (codes "u")) items),
  by_parts l.c (bytes_eq (codes "c") item) (list_any (bytes_eq (codes "c")) items),
  by_parts l.d (bytes_eq (codes "d") item) (list_any (bytes_eq (codes "d")) items),
  by_parts l.r (bytes_eq (codes "r") item) (list_any (bytes_eq (codes "r")) items),
  by_parts l.s (bytes_eq (codes "s") item) (list_any (bytes_eq (codes "s")) items),
) refl

pub one_named : (l : Letters) (item : List ℕ) → record {
  w = l.w || bytes_eq (codes "w") item;
  u = l.u || bytes_eq (codes "u") item;
  c = l.c || bytes_eq (codes "c") item;
  d = l.d || bytes_eq (codes "d") item;
  r = l.r || bytes_eq (codes "r") item;
  s = l.s || bytes_eq (codes "s") item;
} ≡ named_too l (item ∷ [])
one_named l item = rw (
  or-false (bytes_eq (codes "w") item),
  or-false (bytes_eq (codes "u") item),
  or-false (bytes_eq (codes "c") item),
  or-false (bytes_eq (codes "d") item),
  or-false (bytes_eq (codes "r") item),
  or-false (bytes_eq (codes "s") item),
) refl
