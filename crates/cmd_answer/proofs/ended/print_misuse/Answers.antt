use Rattle.cmd_answer.proofs.WrittenLemmas.{part_first, part_on_err, part_second}
use Rattle.cmd_answer.proofs.ended.print_misuse.Goals as goal

pub returns-in_err-print-clause-part : goal.returns-in_err-print-clause-part
returns-in_err-print-clause-part g c = part_on_err _ (part_first _ _ _ _ c.in_err-print.ensures.part)

pub returns-in_err-write_pieces-clause-part : goal.returns-in_err-write_pieces-clause-part
returns-in_err-write_pieces-clause-part g c = part_on_err _ (part_second _ _ _ _ _ c.in_ok-print.ensures.whole c.in_err-write_pieces.ensures.part)
