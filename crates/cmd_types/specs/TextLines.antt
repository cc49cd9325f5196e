-- The lines of a text: its parts between line feeds, and one step of an iterator over them.
use Rattle.std.specs.Prelude.{◌≡◌, ℕ, ◌+◌, ◌<◌, List, [], ◌∷◌, length, Option, Some, None, MatchOption, ◌==◌}
use Rattle.std.specs.Borrow.{Bor}
use Rattle.std.specs.List.{slice_split, join_with_byte}
use Rattle.cmd_types.specs.Bytes.{Lacks}
use Rattle.cmd_types.specs.Cuts.{IsCut}

-- the parts of a text between its line feeds, at least one; the last is the part after the last line feed
unfoldable pub split_lines : List ℕ → List (List ℕ)
split_lines text = slice_split (λ b. b == 10) text

-- the parts, with a line feed between each two
abbrev pub joined : List (List ℕ) → List ℕ
joined ps = join_with_byte 10 ps

-- at least one part, and no line feed in any
abbrev pub AreParts : List (List ℕ) → Type 0
AreParts [] = ⊥
AreParts (p ∷ []) = Lacks 10 p
AreParts (p ∷ (q ∷ ps)) = Lacks 10 p × AreParts (q ∷ ps)

-- ---- of private contracts alone

-- the lines of the part of a text that is left; none where no line is left
abbrev pub lines_left : Option (List ℕ) → List (List ℕ)
lines_left None = []
lines_left (Some text) = split_lines text

-- how many bytes that part has, and one for its last line: so it falls with each line taken
abbrev pub left : Option (List ℕ) → ℕ
left None = 0
left (Some text) = 1 + length text

-- the line is the first one of what was left, and after its line feed, if it has one, the new rest is left
pub record IsFirstLine (old : Option (List ℕ)) (line : List ℕ) (new : Option (List ℕ)) : Type 0 where
  pub text : List ℕ
  pub is : old ≡ Some text
  pub parts : IsCut 10 text line new
  pub one : Lacks 10 line
  pub lines : lines_left old ≡ line ∷ lines_left new
  pub fewer : left new < left old
  pub fewer_lines : length (lines_left new) < length (lines_left old)

-- a step gives the first line, or nothing where none was left
abbrev pub GivesLine : Option (List ℕ) → Option (Bor (List ℕ)) → Option (List ℕ) → Type 0
GivesLine old given new = MatchOption given ((old ≡ None) × (new ≡ None)) (λ line. IsFirstLine old line.now new)
