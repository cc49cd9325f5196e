-- Why `skipped_are_first` keeps its contract.
use Rattle.cmd_lines.proofs.SkippedLaws.{up_to_whole, up_to_count, up_to_last}
use Rattle.cmd_lines.proofs.theorems.skipped_are_first.Goals as goal

pub returns-clause-whole : goal.returns-clause-whole
returns-clause-whole c = up_to_whole

pub returns-clause-count : goal.returns-clause-count
returns-clause-count c = up_to_count c.definitions_agree.ensures

pub returns-clause-last : goal.returns-clause-last
returns-clause-last c = up_to_last c.definitions_agree.ensures
