-- Whole lines at the front of a text, and those up to its n-th command, which a reader skips.
use Rattle.std.specs.Prelude.{◌≡◌, ℕ, zero, suc, ◌+◌, ◌-◌, ◌<◌, ◌⊎◌, List, [], ◌∷◌, ◌++◌, length, Option, Some, None}
use Rattle.cmd_types.specs.Bytes.{Lacks}
use Rattle.cmd_types.specs.Spelling.{Timed}
use Rattle.cmd_types.specs.TextLines.{split_lines}
use Rattle.cmd_lines.specs.declared.fault.LineFault.{LineFault}
use Rattle.cmd_lines.specs.declared.item.Item.{Item}
use Rattle.cmd_lines.specs.declared.item.Item.TheVariants as item
use Rattle.cmd_lines.specs.declared.skip.Skipped.{Skipped}
use Rattle.cmd_lines.specs.declared.skip.Skip.TheVariants as skip
use Rattle.cmd_lines.specs.Items.{items, commands}
use Rattle.cmd_lines.specs.Reader.{Stands, Passing}

-- ---- whole lines

-- each line has its line feed: nothing, or bytes that end with one
abbrev pub AreWhole : List ℕ → Type 0
AreWhole text = (text ≡ []) ⊎ ((others : List ℕ) × (text ≡ others ++ 10 ∷ []))

-- how many lines they are
abbrev pub line_count : List ℕ → ℕ
line_count text = length (split_lines text) - 1

-- an item, where so many lines come before its text
abbrev pub raised : ℕ → Item → Item
raised lines (item.Command t) = item.Command t
raised lines (item.Refused n f) = item.Refused (lines + n) f

abbrev pub raised_refusal : ℕ → ℕ × LineFault → ℕ × LineFault
raised_refusal lines r = (lines + r.0, r.1)

-- ---- the lines up to a command

-- whole lines with so many commands, and after them the line of one more
pub record EndsWithCommand (earlier : ℕ) (front : List ℕ) (t : Timed) : Type 0 where
  pub before : List ℕ
  pub line : List ℕ
  pub parts : front ≡ before ++ (line ++ 10 ∷ [])
  pub whole : AreWhole before
  pub one : Lacks 10 line
  pub count : length (commands (items before)) ≡ earlier
  pub command : items line ≡ item.Command t ∷ []

-- the lines up to that of the n-th command, which is the last; none where n is 0
abbrev pub IsUpTo : ℕ → List ℕ → Option Timed → Type 0
IsUpTo zero front last = (front ≡ []) × (last ≡ None)
IsUpTo (suc n) front last = (t : Timed) × (last ≡ Some t) × EndsWithCommand n front t

-- a text begins with the lines up to that of its n-th command: their bytes, how many they are, and that command
pub record IsSkipped (text : List ℕ) (n : ℕ) (s : Skipped) : Type 0 where
  pub front : List ℕ
  pub rest : List ℕ
  pub parts : text ≡ front ++ rest
  pub up_to : IsUpTo n front s.last
  pub bytes : s.bytes ≡ length front
  pub lines : s.lines ≡ line_count front

-- ---- a reader that skips

-- of the bytes f it has passed the whole lines; to the n commands some are left
pub record Skips (s : Passing) (n : ℕ) (f : List ℕ) : Type 0 where
  pub front : List ℕ
  pub begun : List ℕ
  pub parts : f ≡ front ++ begun
  pub whole : AreWhole front
  pub one : Lacks 10 begun
  pub reads : Stands s.waiting begun []
  pub count : length (commands (items front)) + s.left ≡ n
  pub some : 0 < s.left
  pub fed : s.fed ≡ length f
  pub lines : s.lines ≡ line_count front

-- the n-th command did not come yet, or the lines up to it are known
abbrev pub HasPassed : ℕ → List ℕ → skip.the_data → Type 0
HasPassed n f (skip.More s) = Skips s n f
HasPassed n f (skip.Done s) = IsSkipped f n s

-- ---- of private contracts alone

-- the bytes end a line: a line feed, and before it bytes of that line alone
pub record IsEnd (bytes : List ℕ) : Type 0 where
  pub line : List ℕ
  pub is : bytes ≡ line ++ 10 ∷ []
  pub one : Lacks 10 line
