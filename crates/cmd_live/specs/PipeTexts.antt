-- The bytes that are read from a pipe and passed on.
use Rattle.std.specs.Prelude.{◌≡◌, ℕ, zero, suc, List, [], ◌∷◌, ◌++◌, Option, None, Some}
use Rattle.cmd_types.specs.Cuts.{after}

-- the bytes that the program writes into a pipe, to end a read that waits
abbrev pub mark : List ℕ
mark = 0 ∷ 1 ∷ 10 ∷ []

-- `ys` are the bytes `xs` without one of the marks in them
abbrev pub IsWithoutMark : (xs ys : List ℕ) → Type 0
IsWithoutMark xs ys = (a : List ℕ) × (b : List ℕ) × (xs ≡ a ++ mark ++ b) × (ys ≡ a ++ b)

-- `ys` are the bytes `xs` after `n` marks were removed, one after another
abbrev pub IsWithoutMarks : (n : ℕ) → (xs ys : List ℕ) → Type 0
IsWithoutMarks zero xs ys = ys ≡ xs
IsWithoutMarks (suc n) xs ys = (before : List ℕ) × IsWithoutMarks n xs before × IsWithoutMark before ys

-- no bytes are lost except those of marks
abbrev pub LosesMarks : (xs ys : List ℕ) → Type 0
LosesMarks xs ys = (n : ℕ) × IsWithoutMarks n xs ys

abbrev pub or_nothing : Option (List ℕ) → List ℕ
or_nothing None = []
or_nothing (Some text) = text

-- the text after its first `count` lines; nothing where it has fewer
abbrev pub behind_lines : (count : ℕ) → (text : List ℕ) → List ℕ
behind_lines zero text = text
behind_lines (suc n) text = or_nothing (after 10 (behind_lines n text))
