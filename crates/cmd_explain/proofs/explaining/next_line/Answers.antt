use Rattle.std.proofs.Common.{sym, ap, ◌∙◌, not}
use Rattle.cmd_explain.proofs.LineLemmas.{inner_line, some_line}
use Rattle.cmd_explain.proofs.explaining.next_line.Goals as goal
use Rattle.cmd_explain.proofs.explaining.next_line.Goals.{else-is_empty-via-then-is_empty+else-is_none, else-is_empty-via-else-is_empty}

pub returns-clause-line : goal.returns-clause-line
returns-clause-line c =
    let lines = c.in_ok-line.ensures.steps.lines in
    elim c.else-is_empty.branch [
      | else-is_empty-via-then-is_empty+else-is_none w ↦ inner_line _ _ _ _ lines w.rest.ensures (w.is_none.ensures ∙ ap not w.if-is_none.false)
      | else-is_empty-via-else-is_empty w ↦ some_line _ _ _ lines (sym c.is_empty.ensures ∙ w.if-is_empty.false)
    ]
