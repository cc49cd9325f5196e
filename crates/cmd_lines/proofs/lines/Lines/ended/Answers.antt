use Rattle.std.proofs.Common.{rules}
use Rattle.cmd_lines.proofs.lines.Lines.ended.Goals as goal

pub returns-in_default : goal.returns-in_default
returns-in_default c = search rules
