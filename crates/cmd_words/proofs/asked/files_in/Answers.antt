use Rattle.std.proofs.Common.{rules}
use Rattle.cmd_words.proofs.asked.files_in.Goals as goal

pub returns : goal.returns
returns c = search rules
