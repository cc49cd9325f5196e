use Rattle.std.proofs.Common.{rules}
use Rattle.cmd_queue.proofs.row.TakenRow.next.Goals as goal

pub returns : goal.returns
returns c = search rules
