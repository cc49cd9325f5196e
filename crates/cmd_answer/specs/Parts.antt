-- The parts of a bundle: an inventory text, and a feed after each separator.
use Rattle.std.specs.Prelude.{ℕ, Bool, List, [], ◌∷◌, ◌++◌, Option, Some, None, codes, if◌then◌else◌}
use Rattle.std.specs.Str.{bytes_eq}
use Rattle.cmd_types.specs.Bytes.{without_returns}
use Rattle.cmd_types.specs.TextLines.{split_lines, joined}

-- a separator is three dashes and any number of carriage returns
unfoldable pub is_separator : List ℕ → Bool
is_separator line = bytes_eq (without_returns line) (codes "---")

-- a line with its line feed where others follow; the last line has none
abbrev pub with_feed : (line : List ℕ) → (others : List (List ℕ)) → List ℕ
with_feed line [] = line
with_feed line (next ∷ others) = line ++ 10 ∷ []

-- the texts, with this line put before the first of them
abbrev pub prepend : List ℕ → List (List ℕ) → List (List ℕ)
prepend line [] = line ∷ []
prepend line (text ∷ texts) = (line ++ text) ∷ texts

-- the texts between the separators: the first text, and one after each separator
abbrev pub texts : (lines : List (List ℕ)) → List (List ℕ)
texts [] = [] ∷ []
texts (line ∷ lines) = if is_separator line then [] ∷ texts lines else prepend (with_feed line lines) (texts lines)

-- the parts of an input: the inventory text, then the feeds
abbrev pub parts : List ℕ → List (List ℕ)
parts input = texts (split_lines input)

-- the two texts, if any, with this line put before the first of them
abbrev pub prepend_first : List ℕ → Option (List ℕ × List ℕ) → Option (List ℕ × List ℕ)
prepend_first line None = None
prepend_first line (Some two) = Some (line ++ two.0, two.1)

-- the text before the first separator and the text after it, where there is a separator
abbrev pub first_texts : (lines : List (List ℕ)) → Option (List ℕ × List ℕ)
first_texts [] = None
first_texts (line ∷ lines) = if is_separator line then Some ([], joined lines) else prepend_first (with_feed line lines) (first_texts lines)

-- the two texts of an input before and after its first separator, where there is one
abbrev pub divided : List ℕ → Option (List ℕ × List ℕ)
divided input = first_texts (split_lines input)
