use Rattle.std.proofs.Common.{rules}
use Rattle.cmd_answer.proofs.stop.Stop.status.Goals as goal

pub returns-in-Usage : goal.returns-in-Usage
returns-in-Usage c = search rules
