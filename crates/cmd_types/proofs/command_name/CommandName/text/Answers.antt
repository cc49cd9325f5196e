use Rattle.std.proofs.Common.{refl}
use Rattle.cmd_types.proofs.command_name.CommandName.text.Goals as goal

pub returns-in-DelHostComment : goal.returns-in-DelHostComment
returns-in-DelHostComment c = rw c.in-DelHostComment.is refl

pub returns-in-DisablePassiveHostChecks : goal.returns-in-DisablePassiveHostChecks
returns-in-DisablePassiveHostChecks c = rw c.in-DisablePassiveHostChecks.is refl
