-- Whether an item of a comma list is empty, byte by byte.
use Rattle.std.proofs.Common.{◌≡◌, ℕ, Bool, true, false, ◌&&◌, ◌||◌, List, [], ◌∷◌, ◌==◌, refl}
use Rattle.std.specs.List.{list_any, slice_split}
use Rattle.mon_inventory.specs.Line.{is_empty}
use Rattle.mon_inventory.specs.Texts.{items, has_empty_item}
use Rattle.mon_inventory.proofs.Cuts.{parts_cut}

-- an item is empty, where the first of them counts only if it had no byte before these
abbrev in_parts : Bool → List (List ℕ) → Bool
in_parts none [] = false
in_parts none (item ∷ others) = (none && is_empty item) || list_any is_empty others

abbrev pub is_any_empty : Bool → List ℕ → Bool
is_any_empty none bytes = in_parts none (slice_split (λ b. b == 44) bytes)

pub at_start : (text : List ℕ) → is_empty text ≡ false → is_any_empty true text ≡ has_empty_item text
unfolding items
at_start text e = rw (e, parts_cut 44 text) refl

pub no_items : (text : List ℕ) → is_empty text ≡ true → false ≡ has_empty_item text
unfolding items
no_items text e = rw e refl
