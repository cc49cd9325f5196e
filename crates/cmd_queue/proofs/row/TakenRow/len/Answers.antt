use Rattle.std.proofs.Common.{◌≡◌, ◌∙◌, length, sym, ap, arith}
use Rattle.std.specs.Vec.Iter.{into_iter_items, into_iter_len}
use Rattle.cmd_queue.specs.Rows.{Row, row_taken}
use Rattle.cmd_queue.proofs.Lists.{length-row}
use Rattle.cmd_queue.proofs.row.TakenRow.len.Goals as goal

pub returns : goal.returns
returns c =
    let rest = c.self.inside in
    let all : into_iter_len rest.commands ≡ length (into_iter_items rest.commands) = omega (arith, rest.commands.rest.ok) in
    c.len.ensures ∙ all ∙ sym (length-row rest.before rest.sender (into_iter_items rest.commands)) ∙ ap (λ (r : Row). length (row_taken r)) c.self.view_is
