use Rattle.mon_downtime.proofs.FirstLemmas.{none_are_kept}
use Rattle.mon_downtime.proofs.kept.RecordIndex.new.Goals as goal

pub returns : goal.returns
returns c = none_are_kept _ c.new.ensures.queue c.new.ensures.none c.new-2.ensures.items c.new-3.ensures c.new-4.ensures
