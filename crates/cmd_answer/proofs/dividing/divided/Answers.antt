use Rattle.std.proofs.Common.{sym, ◌∙◌}
use Rattle.cmd_answer.proofs.Divides.{seeking_start, line_found, line_passed}
use Rattle.cmd_answer.proofs.dividing.divided.Goals as goal

pub lines-init : goal.lines-init
lines-init c = rw c.new-lines.ensures (seeking_start c.args.input.now)

pub returns-then-is_separator : goal.returns-then-is_separator
returns-then-is_separator c =
    let step = c.in-Some.ensures.steps in
    line_found c.args.input.now c.lines.ahead.now step.text c.in-Some.line.now c.behind-after.result.now c.lines.lines c.next.new.self
    step.is step.parts step.lines c.behind-after.ensures c.lines.invariant (sym c.is_separator.ensures ∙ c.if-is_separator.true)

pub lines-preserved : goal.lines-preserved
lines-preserved c =
    let step = c.in-Some.ensures.steps in
    line_passed c.args.input.now c.lines.ahead.now step.text c.in-Some.line.now c.behind-after.result.now c.lines.lines c.next.new.self
    step.is step.parts step.lines c.behind-after.ensures c.lines.invariant (sym c.is_separator.ensures ∙ c.if-is_separator.false)
