use Rattle.mon_downtime.proofs.CancelLemmas.{dependants_least}
use Rattle.mon_downtime.proofs.laws.dependants_are_least.Goals as goal

pub returns : goal.returns
returns c = dependants_least
