-- Why `skipping_has_fewer` keeps its contract.
use Rattle.cmd_lines.proofs.SkippedLaws.{skips_fewer}
use Rattle.cmd_lines.proofs.theorems.skipping_has_fewer.Goals as goal

pub returns : goal.returns
returns c = skips_fewer c.definitions_agree.ensures
