use Rattle.cmd_types.specs.TextLines.{left}
use Rattle.cmd_answer.proofs.Divides.{IsSeeking}
use Rattle.cmd_answer.proofs.dividing.divided.Given as goal

abbrev pub invariant-lines : goal.invariant-lines
invariant-lines l = IsSeeking l.input l.ahead l.lines

abbrev pub decreases-lines : goal.decreases-lines
decreases-lines l = left l.lines
