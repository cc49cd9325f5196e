use Rattle.cmd_explain.proofs.LawLemmas.{finds_all}
use Rattle.cmd_explain.proofs.KnownLineLemmas.{knows_all}
use Rattle.cmd_explain.proofs.laws.every_line_is_known.Goals as goal

pub returns : goal.returns
returns c = record { found = finds_all; known = knows_all c.definitions_agree.ensures }
