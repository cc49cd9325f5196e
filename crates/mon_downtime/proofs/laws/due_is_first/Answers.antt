use Rattle.mon_downtime.proofs.DueLemmas.{due_is_first}
use Rattle.mon_downtime.proofs.laws.due_is_first.Goals as goal

pub returns : goal.returns
returns c = due_is_first
