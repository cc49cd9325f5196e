use Rattle.std.proofs.Common.{rules}
use Rattle.cmd_answer.proofs.ended.misused.Goals as goal

pub returns-clause-text : goal.returns-clause-text
returns-clause-text g c = search rules
