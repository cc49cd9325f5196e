use Rattle.std.proofs.Common.{refl}
use Rattle.cmd_types.proofs.command.Command.names.Goals as goal

pub returns-in-AddSvcComment : goal.returns-in-AddSvcComment
returns-in-AddSvcComment c = rw c.in-AddSvcComment.is refl
