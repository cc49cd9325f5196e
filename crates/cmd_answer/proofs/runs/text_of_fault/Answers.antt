use Rattle.std.proofs.Common.{refl, rules}
use Rattle.cmd_answer.proofs.runs.text_of_fault.Goals as goal

pub returns-clause-status : goal.returns-clause-status
returns-clause-status c = refl

pub returns-clause-text : goal.returns-clause-text
returns-clause-text c = search rules
