use Rattle.std.proofs.Common.{rules}
use Rattle.cmd_dispatch.proofs.sender.end_text.Goals as goal

pub returns-in-Whole : goal.returns-in-Whole
returns-in-Whole c = search rules

pub returns-in-ReadFailed-clause-items : goal.returns-in-ReadFailed-clause-items
returns-in-ReadFailed-clause-items c = search rules
