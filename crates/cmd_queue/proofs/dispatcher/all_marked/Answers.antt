use Rattle.std.proofs.Common.{rules}
use Rattle.cmd_queue.proofs.dispatcher.all_marked.Goals as goal

pub returns : goal.returns
returns c = search rules
