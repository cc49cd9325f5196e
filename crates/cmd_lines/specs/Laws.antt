-- Laws of the definitions of lines. All are proved, and crates above use them.
use Rattle.std.specs.Prelude.{◌≡◌, ℕ, List, ◌++◌}
use Rattle.cmd_types.specs.Bytes.{Lacks, without_returns}
use Rattle.cmd_types.specs.Cuts.{before}
use Rattle.cmd_types.specs.Laws.{Laws}
use Rattle.cmd_types.specs.Spelling.{Timed, IsWellFormed, Spells, canonical}
use Rattle.cmd_lines.specs.FirstFault.{Opens}
use Rattle.cmd_lines.specs.Reading.{from}

-- a line is cut where a byte stands first, the canonical line of what is well formed spells it and is one line without a
-- carriage return at its end, and a line spells one command with its time at most; of bytes, numbers and commands the laws
-- of cmd_types hold
pub record ReadingLaws : Type 0 where
  pub below : Laws
  pub front : (b : ℕ) (xs ys : List ℕ) → Lacks b xs → Opens b ys → before b (xs ++ ys) ≡ xs
  pub back : (b : ℕ) (xs ys : List ℕ) → Lacks b xs → Opens b ys → from b (xs ++ ys) ≡ ys
  pub spelled : (t : Timed) → IsWellFormed t → Spells (canonical t) t
  pub one_line : (t : Timed) → IsWellFormed t → Lacks 10 (canonical t)
  pub ended : (t : Timed) → IsWellFormed t → without_returns (canonical t) ≡ canonical t
  pub one : (line : List ℕ) (t u : Timed) → Spells line t → Spells line u → t ≡ u
