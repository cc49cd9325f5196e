use Rattle.std.proofs.Common.{◌∙◌, ap, arith, length}
use Rattle.cmd_answer.proofs.files.open_files.Goals as goal

pub returns-clause-count : goal.returns-clause-count
returns-clause-count g c =
    let count = c.is_sender_count.ensures.0 c.if-not-is_sender_count.false in
    (omega (arith, c.len.ensures, count.0), omega (arith, c.len.ensures, count.1))

pub returns-clause-one_each : goal.returns-clause-one_each
returns-clause-one_each g c = c.in_ok-files.ensures.one_each ∙ ap length c.deref-2.ensures.value
