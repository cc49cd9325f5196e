-- Why `given_come_first` keeps its contract.
use Rattle.cmd_lines.specs.Items.{items_from}
use Rattle.cmd_lines.proofs.StandLaws.{stands_known}
use Rattle.cmd_lines.proofs.theorems.given_come_first.Goals as goal

pub returns : goal.returns
returns c = λ w f g s. (items_from w.phase w.number w.pending, stands_known w f g s)
