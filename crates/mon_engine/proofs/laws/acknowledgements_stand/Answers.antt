use Rattle.mon_engine.proofs.AcknowledgedLemmas.{acknowledgements_stand}
use Rattle.mon_engine.proofs.laws.acknowledgements_stand.Goals as goal

pub returns : goal.returns
returns c = acknowledgements_stand
