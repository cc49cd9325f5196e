-- What stays true in the loop of `last_line`.
use Rattle.std.proofs.Common.{◌≡◌, ◌++◌, ℕ, List, length}
use Rattle.cmd_types.specs.Bytes.{Lacks}
use Rattle.cmd_lines.proofs.split.last_line.Given as goal

abbrev pub invariant-bytes : goal.invariant-bytes
invariant-bytes l = (line : List ℕ) × (l.fn.bytes ≡ l.front ++ line) × Lacks 10 line

abbrev pub decreases-bytes : goal.decreases-bytes
decreases-bytes l = length l.front
