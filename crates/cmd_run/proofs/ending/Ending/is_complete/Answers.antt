use Rattle.std.proofs.Common.{rules}
use Rattle.cmd_run.proofs.ending.Ending.is_complete.Goals as goal

pub returns-in-Memory : goal.returns-in-Memory
returns-in-Memory c = search rules
