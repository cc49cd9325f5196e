use Rattle.std.proofs.Common.{rules}
use Rattle.cmd_words.proofs.asked.options_of.Goals as goal

pub returns : goal.returns
returns c = search rules
