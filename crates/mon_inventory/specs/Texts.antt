-- Texts cut at a byte: comma lists and their items.
use Rattle.std.specs.Prelude.{ℕ, Bool, List, [], length, Option, Some, None, ◌==◌, if◌then◌else◌}
use Rattle.std.specs.List.{list_any, slice_split}

-- the items of a comma list, which may be empty: its parts between commas
unfoldable pub items : List ℕ → List (List ℕ)
items text = if length text == 0 then [] else slice_split (λ b. b == 44) text

-- an item of a comma list is empty
abbrev pub has_empty_item : List ℕ → Bool
has_empty_item text = list_any (λ item. length item == 0) (items text)

-- ---- of private contracts alone

-- the parts, between bytes b, of what is left of a text, where a part is left
abbrev pub parts_left : ℕ → Option (List ℕ) → List (List ℕ)
parts_left b None = []
parts_left b (Some text) = slice_split (λ x. x == b) text
