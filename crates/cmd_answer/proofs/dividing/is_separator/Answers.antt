use Rattle.std.proofs.Common.{rules}
use Rattle.cmd_answer.specs.Parts.{is_separator}
use Rattle.cmd_answer.proofs.dividing.is_separator.Goals as goal

pub returns : goal.returns
unfolding is_separator
returns c = search rules
