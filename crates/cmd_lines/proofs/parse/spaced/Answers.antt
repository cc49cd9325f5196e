use Rattle.std.proofs.Common.{rules}
use Rattle.cmd_lines.specs.Reading.{spaced}
use Rattle.cmd_lines.proofs.parse.spaced.Goals as goal

pub returns-in_default : goal.returns-in_default
unfolding spaced
returns-in_default c = search rules
