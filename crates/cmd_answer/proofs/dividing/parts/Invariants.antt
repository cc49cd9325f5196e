use Rattle.std.proofs.Common.{map}
use Rattle.cmd_types.specs.TextLines.{left}
use Rattle.cmd_answer.proofs.Divides.{IsDividing}
use Rattle.cmd_answer.proofs.dividing.parts.Given as goal

abbrev pub invariant-lines : goal.invariant-lines
invariant-lines l = IsDividing l.input l.part l.ahead l.lines (map (λ t. t.now) l.texts.items)

abbrev pub decreases-lines : goal.decreases-lines
decreases-lines l = left l.lines
