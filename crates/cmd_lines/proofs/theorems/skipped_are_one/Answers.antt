-- Why `skipped_are_one` keeps its contract.
use Rattle.cmd_lines.proofs.OneFront.{one_front}
use Rattle.cmd_lines.proofs.theorems.skipped_are_one.Goals as goal

pub returns : goal.returns
returns c = one_front c.definitions_agree.ensures
