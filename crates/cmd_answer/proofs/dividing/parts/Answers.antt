use Rattle.std.proofs.Common.{map, sym, ◌∙◌}
use Rattle.std.proofs.lemmas.List.{map-append}
use Rattle.cmd_answer.proofs.Divides.{dividing_start, line_divides, line_goes_on}
use Rattle.cmd_answer.proofs.dividing.parts.Goals as goal

pub lines-init : goal.lines-init
lines-init c = rw (c.new-lines.ensures, c.new-texts.ensures.items) (dividing_start c.args.input.now)

pub lines-preserved-in_ok-push : goal.lines-preserved-in_ok-push
lines-preserved-in_ok-push c =
    let step = c.in-Some.ensures.steps in
    rw (c.in_ok-push.ensures.items, map-append)
    (line_divides c.args.input.now c.lines.part.now c.lines.ahead.now step.text c.in-Some.line.now c.behind-after.result.now c.lines.lines c.next.new.self (map (λ t. t.now) c.lines.texts.items)
    step.is step.parts step.lines c.behind-after.ensures c.lines.invariant (sym c.is_separator.ensures ∙ c.if-is_separator.true))

pub lines-preserved : goal.lines-preserved
lines-preserved c =
    let step = c.in-Some.ensures.steps in
    line_goes_on c.args.input.now c.lines.part.now c.lines.ahead.now step.text c.in-Some.line.now c.behind-after.result.now c.lines.lines c.next.new.self (map (λ t. t.now) c.lines.texts.items)
    step.is step.parts step.lines c.behind-after.ensures c.lines.invariant (sym c.is_separator.ensures ∙ c.if-is_separator.false)
