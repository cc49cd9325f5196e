-- The line that shows a refused line.
use Rattle.std.specs.Prelude.{ℕ, ◌+◌, ◌/◌, ◌%◌, ◌==◌, ◌&&◌, Bool, not, nat_le, nat_lt, min, if◌then◌else◌, List, [], ◌∷◌, ◌++◌, length, take, codes}
use Rattle.std.specs.List.{flat_map}
use Rattle.cmd_lines.specs.declared.fault.LineFault.{LineFault}
use Rattle.cmd_explain.specs.Words.{fault_words}
use Rattle.cmd_explain.specs.Meanings.{together}

-- a letter, digit, sign or space of ASCII, but no backslash
abbrev pub is_plain : ℕ → Bool
is_plain b = nat_le 32 b && (nat_le b 126 && not (b == 92))

abbrev pub hex_digit : ℕ → ℕ
hex_digit n = if nat_lt (n % 16) 10 then 48 + n % 16 else 87 + n % 16

-- a plain byte unchanged, any other as \xNN
abbrev pub shown_byte : ℕ → List ℕ
shown_byte b = if is_plain b then b ∷ [] else 92 ∷ 120 ∷ hex_digit (b / 16) ∷ hex_digit b ∷ []

-- PATH: FAULT IN WORDS: THE FIRST 120 BYTES, after four spaces
abbrev pub shown_line : (path : List ℕ) → LineFault → (line : List ℕ) → List ℕ
shown_line path fault line =
    codes "    " ++ (flat_map shown_byte path ++ (codes ": " ++ (together (fault_words fault) ++ (codes ": " ++ (flat_map shown_byte (take (min (length line) 120) line) ++ 10 ∷ [])))))
