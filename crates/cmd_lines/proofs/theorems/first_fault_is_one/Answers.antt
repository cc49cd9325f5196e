-- Why `first_fault_is_one` keeps its contract.
use Rattle.cmd_lines.proofs.FaultIsRead.{fault_read, one_fault}
use Rattle.cmd_lines.proofs.Laws.{spells_nothing}
use Rattle.cmd_lines.proofs.theorems.first_fault_is_one.Goals as goal

pub returns-clause-one : goal.returns-clause-one
returns-clause-one c = one_fault c.definitions_agree.ensures

pub returns-clause-nothing_spelled : goal.returns-clause-nothing_spelled
returns-clause-nothing_spelled c = λ line f t h s. spells_nothing c.definitions_agree.ensures line f (fault_read c.definitions_agree.ensures line f h) t s
