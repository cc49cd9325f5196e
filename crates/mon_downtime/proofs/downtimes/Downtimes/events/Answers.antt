use Rattle.mon_downtime.proofs.RecordLemmas.{numbered}
use Rattle.mon_downtime.proofs.FirstLemmas.{all_in_order}
use Rattle.mon_downtime.proofs.downtimes.Downtimes.events.Goals as goal

pub returns : goal.returns
returns c = rw (c.events.ensures, ← c.self.view_is) (all_in_order c.self.inside.records.items c.self.inside.kept.queue (numbered 0 _ c.self.invariant.records) c.self.invariant.listed)
