use Rattle.cmd_explain.proofs.OutputLemmas.{loses_nothing}
use Rattle.cmd_explain.proofs.laws.explaining_loses_nothing.Goals as goal

pub returns : goal.returns
returns c = loses_nothing c.definitions_agree.ensures
