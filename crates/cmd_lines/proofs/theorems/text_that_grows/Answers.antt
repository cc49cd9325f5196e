-- Why `text_that_grows` keeps its contract.
use Rattle.cmd_lines.proofs.SkipLaws.{grows}
use Rattle.cmd_lines.proofs.theorems.text_that_grows.Goals as goal

pub returns : goal.returns
returns c = grows c.definitions_agree.ensures
