-- What stays true in the loop of `past_empty`.
use Rattle.std.proofs.Common.{◌≡◌, [], Some}
use Rattle.cmd_types.specs.TextLines.{left}
use Rattle.cmd_lines.specs.Steps.{Passes}
use Rattle.cmd_lines.proofs.step.past_empty.Given as goal

abbrev pub invariant-lines : goal.invariant-lines
invariant-lines l = (l.lines ≡ Some l.left) × Passes l.fn.number l.fn.pending [] l.first l.left

abbrev pub decreases-lines : goal.decreases-lines
decreases-lines l = left l.lines
