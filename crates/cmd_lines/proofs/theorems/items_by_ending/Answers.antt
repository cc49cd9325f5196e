-- Why `items_by_ending` keeps its contract.
use Rattle.std.proofs.Common.{◌∙◌}
use Rattle.std.proofs.lemmas.List.{append-nil}
use Rattle.cmd_lines.specs.declared.phase.Phase.TheVariants.{Open, Finished, CutOff}
use Rattle.cmd_lines.specs.Items.{items}
use Rattle.cmd_lines.proofs.PassLaws.{last_is}
use Rattle.cmd_lines.proofs.EndingLaws.{ended_is}
use Rattle.cmd_lines.proofs.theorems.items_by_ending.Goals as goal

pub returns-clause-so_far : goal.returns-clause-so_far
returns-clause-so_far c = λ text last lacks. ended_is c.definitions_agree.ensures Open text last lacks ∙ append-nil (items text)

pub returns-clause-ended : goal.returns-clause-ended
returns-clause-ended c = ended_is c.definitions_agree.ensures Finished

pub returns-clause-cut : goal.returns-clause-cut
returns-clause-cut c = ended_is c.definitions_agree.ensures CutOff

pub returns-clause-one_line : goal.returns-clause-one_line
returns-clause-one_line c = λ last lacks. (last_is c.definitions_agree.ensures Open 1 last lacks, last_is c.definitions_agree.ensures Finished 1 last lacks, last_is c.definitions_agree.ensures CutOff 1 last lacks)
