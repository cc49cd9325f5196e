use Rattle.std.proofs.Common.{rules}
use Rattle.cmd_answer.proofs.ended.stopped.Goals as goal

pub returns-clause-line : goal.returns-clause-line
returns-clause-line g c = search rules
