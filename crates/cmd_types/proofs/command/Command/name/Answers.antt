use Rattle.std.proofs.Common.{refl}
use Rattle.cmd_types.proofs.command.Command.name.Goals as goal

pub returns-in-DelHostComment : goal.returns-in-DelHostComment
returns-in-DelHostComment c = rw c.in-DelHostComment.is refl
