-- Where the reading of a file begins, which earlier runs may have read in part.
use Rattle.std.specs.Prelude.{◌≡◌, ℕ, List, Option, Some, None}
use Rattle.cmd_types.specs.Spelling.{Timed, canonical}
use Rattle.cmd_lines.specs.Skips.{IsSkipped}

-- the command has this canonical line; where there is no command, no line is compared
abbrev pub HasLine : Option Timed → (line : List ℕ) → Type 0
HasLine None line = Unit {0}
HasLine (Some t) line = canonical t ≡ line

-- The text is that of the file that earlier runs read: it has the `count` commands that they journaled, the last of
-- which has the line `last`. There are `lines` lines up to that command's line, with `bytes` bytes
pub record IsReadBefore (text : List ℕ) (count : ℕ) (last : List ℕ) (bytes lines : ℕ) : Type 0 where
  pub command : Option Timed
  pub skipped : IsSkipped text count (record { bytes = bytes; lines = lines; last = command })
  pub same : HasLine command last

-- the text is that of another file: it has fewer commands than were journaled, or another command at the place of the
-- last one
abbrev pub IsOfAnother : (text : List ℕ) → (count : ℕ) → (last : List ℕ) → Type 0
IsOfAnother text count last = (bytes lines : ℕ) → IsReadBefore text count last bytes lines → ⊥
