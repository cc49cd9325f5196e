use Rattle.mon_downtime.proofs.OpenLemmas.{none_wait}
use Rattle.mon_downtime.proofs.waiting.Waiting.new.Goals as goal

pub returns : goal.returns
returns c = none_wait _ c.new.ensures.queue c.new.ensures.none c.new-2.ensures
