-- Why `items_of_lines` keeps its contract.
use Rattle.cmd_lines.proofs.SkipLaws.{whole_then, whole_known, whole_commands, whole_refusals}
use Rattle.cmd_lines.proofs.theorems.items_of_lines.Goals as goal

pub returns-clause-items : goal.returns-clause-items
returns-clause-items c = whole_then c.definitions_agree.ensures

pub returns-clause-whole : goal.returns-clause-whole
returns-clause-whole c = whole_known c.definitions_agree.ensures

pub returns-clause-commands : goal.returns-clause-commands
returns-clause-commands c = whole_commands c.definitions_agree.ensures

pub returns-clause-refusals : goal.returns-clause-refusals
returns-clause-refusals c = whole_refusals c.definitions_agree.ensures
