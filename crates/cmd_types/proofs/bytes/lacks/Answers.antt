-- Why `lacks` keeps its contract.
use Rattle.cmd_types.proofs.ByteLists.{Decides-lacks}
use Rattle.cmd_types.proofs.bytes.lacks.Goals as goal

pub returns : goal.returns
returns c = rw c.contains.ensures.value (Decides-lacks c.args.byte c.args.bytes.now)
