-- The explained text: each line of a text, and after each line that is known its meaning.
use Rattle.std.specs.Prelude.{ℕ, ◌==◌, ◌&&◌, Bool, true, false, if◌then◌else◌, nat_eq, List, [], ◌∷◌, ◌++◌, length, Option, Some, None, option_map, is_some, codes}
use Rattle.std.specs.List.{flat_map, list_all, starts_with, ends_with}
use Rattle.std.specs.Option.{option_and_then, option_or}
use Rattle.cmd_types.specs.Bytes.{without_returns}
use Rattle.cmd_types.specs.TextLines.{split_lines}
use Rattle.cmd_explain.specs.declared.known.KnownLine.{KnownLine}
use Rattle.cmd_explain.specs.declared.known.KnownLine.TheVariants.{Open, Absent, Times}
use Rattle.cmd_explain.specs.Parts.{form, numbers, are_small}
use Rattle.cmd_explain.specs.KnownLines.{kind_of, line_of}
use Rattle.cmd_explain.specs.Times.{times_of}
use Rattle.cmd_explain.specs.Meanings.{meaning}

-- ---- a line

-- the line names a file that cannot be opened; all bytes after these words are its path
abbrev pub names_path : (line : List ℕ) → Bool
names_path line = starts_with nat_eq line (codes "gateway: open ")

-- the line names the file of a feed, and ends with these words; all bytes between the words are its path
abbrev pub names_feed : (line last : List ℕ) → Bool
names_feed line last = starts_with nat_eq line (codes "gateway: feed ") && ends_with nat_eq line last

-- what a line that names a file says
abbrev pub line_by_path : (line : List ℕ) → Option KnownLine
line_by_path line =
    if names_path line then Some Open else
    if names_feed line (codes ": not there") then Some (Absent false) else
    if names_feed line (codes ": not opened") then Some (Absent true) else None

-- what a line of the status on the moments of an object says
abbrev pub line_by_times : (line : List ℕ) → Option KnownLine
line_by_times line = option_map Times (times_of line)

-- what a line says by its form and its numbers
abbrev pub known_by_form : (line : List ℕ) → Option KnownLine
known_by_form line = if are_small (numbers line) then option_and_then (λ kind. line_of kind (numbers line)) (kind_of (form line)) else None

-- what a line that the program prints says; none for any other line
unfoldable pub known_line : (line : List ℕ) → Option KnownLine
known_line line = option_or (line_by_path line) (option_or (line_by_times line) (known_by_form line))

-- what a line of a text says; carriage returns at its end do not count
abbrev pub known_by_line : (line : List ℕ) → Option KnownLine
known_by_line line = known_line (without_returns line)

abbrev pub is_known : (line : List ℕ) → Bool
is_known line = is_some (known_by_line line)

-- ---- a text

-- the lines of a text, without the last one where that is empty
abbrev pub whole_lines : List (List ℕ) → List (List ℕ)
whole_lines [] = []
whole_lines (line ∷ []) = if length line == 0 then [] else line ∷ []
whole_lines (line ∷ (next ∷ lines)) = line ∷ whole_lines (next ∷ lines)

abbrev pub lines_of : (text : List ℕ) → List (List ℕ)
lines_of text = whole_lines (split_lines text)

-- the line after a line that says this: four blanks and the meaning; none after a line that is not known
abbrev pub meaning_lines : Option KnownLine → List (List ℕ)
meaning_lines None = []
meaning_lines (Some known) = (codes "    " ++ meaning known) ∷ []

-- each line, and after each line that is known its meaning
abbrev pub shown_lines : (lines : List (List ℕ)) → List (List ℕ)
shown_lines [] = []
shown_lines (line ∷ lines) = line ∷ (meaning_lines (known_by_line line) ++ shown_lines lines)

-- lines, each with its line feed
abbrev pub ended : (lines : List (List ℕ)) → List ℕ
ended lines = flat_map (λ line. line ++ 10 ∷ []) lines

-- the explained text
abbrev pub explained : (text : List ℕ) → List ℕ
explained text = ended (shown_lines (lines_of text))

-- each line of the text is known
abbrev pub is_all_known : (text : List ℕ) → Bool
is_all_known text = list_all is_known (lines_of text)

-- ---- without the meanings

-- the lines without the line after each line that is known; `behind`: whether the line before the first one is known
abbrev pub taken_away : (behind : Bool) → (lines : List (List ℕ)) → List (List ℕ)
taken_away behind [] = []
taken_away true (line ∷ lines) = taken_away false lines
taken_away false (line ∷ lines) = line ∷ taken_away (is_known line) lines
