use Rattle.std.proofs.Common.{sym, ap, refl}
use Rattle.crossbeam_channel.specs.Claims.{view}
use Rattle.cmd_queue.specs.Rows.{row_taken}
use Rattle.cmd_queue.proofs.Takers.{answer_kept, answer_one, answer_all}
use Rattle.cmd_queue.proofs.dispatcher.next_message.Goals as goal

pub returns-in-Some-clause-next : goal.returns-in-Some-clause-next
returns-in-Some-clause-next g c = answer_one _ _ _ _ _ (answer_kept (view c.args.pass.now) _ _ _ c.requires.knows c.in-Some.ensures)

pub returns-in-One-clause-next : goal.returns-in-One-clause-next
returns-in-One-clause-next g c =
    answer_all (view c.args.pass.now) (view c.receive.new.pass) _ _ _ _ c.requires.knows c.in_default.ensures.0 c.in_default.ensures.1 (rw c.in-One.is at c.in_ok-message.ensures.rule) refl

pub returns-in-Many-clause-next : goal.returns-in-Many-clause-next
returns-in-Many-clause-next g c =
    answer_all (view c.args.pass.now) (view c.receive.new.pass) _ _ _ _ c.requires.knows c.in_default.ensures.0 c.in_default.ensures.1 (rw c.in-Many.is at c.in_ok-message.ensures.rule) (ap row_taken (sym c.into_row.ensures.row))

pub returns-in-Mark-clause-next : goal.returns-in-Mark-clause-next
returns-in-Mark-clause-next g c =
    answer_all (view c.args.pass.now) (view c.receive.new.pass) _ _ _ _ c.requires.knows c.in_default.ensures.0 c.in_default.ensures.1 (rw c.in-Mark.is at c.in_ok-message.ensures.rule) refl
