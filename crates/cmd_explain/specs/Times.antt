-- The line of the status on the moments of an object: times;CHECKED;CHANGED;SINCE;LAST;WITHHELD.
use Rattle.std.specs.Prelude.{ℕ, Bool, if◌then◌else◌, List, Option, None, take, drop, codes}
use Rattle.std.specs.Char.{is_ascii_digit}
use Rattle.std.specs.List.{find, list_all}
use Rattle.std.specs.Option.{option_and_then}
use Rattle.std.specs.Str.{bytes_eq}
use Rattle.cmd_types.specs.Cuts.{before, after}
use Rattle.mon_engine.specs.declared.withheld.Withheld.{Withheld}
use Rattle.mon_engine.specs.Words.{withheld_text}
use Rattle.cmd_explain.specs.declared.times.TheConstants.{WITHHELD}

-- a moment: digits alone, or no bytes
abbrev pub is_moment : (text : List ℕ) → Bool
is_moment text = list_all is_ascii_digit text

-- the text after the first semicolon, where a moment stands before it
abbrev pub behind_moment : (text : List ℕ) → Option (List ℕ)
behind_moment text = if is_moment (before 59 text) then after 59 text else None

-- the text after four moments, each with its semicolon
abbrev pub behind_moments : (text : List ℕ) → Option (List ℕ)
behind_moments text = option_and_then behind_moment (option_and_then behind_moment (option_and_then behind_moment (behind_moment text)))

-- what withholds a notice, by its word, where no bytes stand for nothing; none for any other word
unfoldable pub withheld_of : (word : List ℕ) → Option (Option Withheld)
withheld_of word = find (λ w. bytes_eq (withheld_text w) word) WITHHELD

-- what withholds a notice by this line: `times;`, four moments and a word; none for any other line
abbrev pub times_of : (line : List ℕ) → Option (Option Withheld)
times_of line = if bytes_eq (take 6 line) (codes "times;") then option_and_then withheld_of (behind_moments (drop 6 line)) else None
