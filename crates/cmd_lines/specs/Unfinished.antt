-- A line that is not finished: the bytes after the last line feed of a text, and those of them that are kept.
use Rattle.std.specs.Prelude.{◌≡◌, ℕ, ◌+◌, ◌≤◌, Bool, true, List, [], ◌∷◌, ◌++◌, length, nat_lt, if◌then◌else◌}
use Rattle.cmd_types.specs.Bytes.{without_returns}
use Rattle.cmd_types.specs.declared.limits.TheConstants.{LONGEST_LINE}
use Rattle.cmd_types.specs.TextLines.{split_lines}
use Rattle.cmd_lines.specs.declared.phase.Phase.{Phase}
use Rattle.cmd_lines.specs.Items.{items_from}

abbrev pub last_of : List (List ℕ) → List ℕ
last_of [] = []
last_of (line ∷ []) = line
last_of (line ∷ (next ∷ others)) = last_of (next ∷ others)

-- the last line of a text: the bytes after its last line feed
unfoldable pub last_line : List ℕ → List ℕ
last_line text = last_of (split_lines text)

-- the most bytes of it that are kept: with one more than a line may have, it is seen to be too long
abbrev pub most_held : ℕ
most_held = LONGEST_LINE + 1

-- where bytes of it were dropped (lost), one letter x stands for all of them
abbrev pub in_place : Bool → List ℕ
in_place lost = if lost then 120 ∷ [] else []

-- what is in memory: how many bytes that were read, then those that wait, and of them those of the last line; and whether others of that line are lost
pub record Keeping : Type 0 where
  pub read : ℕ
  pub bytes : List ℕ
  pub held : List ℕ
  pub lost : Bool

-- the bytes that wait, with one byte for those that were dropped
abbrev pub pending_of : Keeping → List ℕ
pending_of k = k.bytes ++ in_place k.lost

-- ---- of private contracts alone

-- bytes that are not kept matter where one of them is no carriage return
abbrev pub is_lost : List ℕ → Bool
is_lost bytes = nat_lt 0 (length (without_returns bytes))

-- both texts have the same items, however they go on and end
abbrev pub ReadAlike : List ℕ → List ℕ → Type 0
ReadAlike xs ys = (e : Phase) (n : ℕ) (more : List ℕ) → items_from e n (xs ++ more) ≡ items_from e n (ys ++ more)

-- of the last line at most most_held bytes are kept, and exactly so many where others of it were dropped
pub record IsKept (bytes held : List ℕ) (lost : Bool) : Type 0 where
  pub last : held ≡ last_line bytes
  pub few : length held ≤ most_held
  pub full : lost ≡ true → length held ≡ most_held
