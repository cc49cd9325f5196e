use Rattle.std.proofs.Common.{◌∙◌}
use Rattle.mon_downtime.proofs.RecordLemmas.{numbered}
use Rattle.mon_downtime.proofs.FirstLemmas.{first_is_due}
use Rattle.mon_downtime.proofs.downtimes.Downtimes.next_due.Goals as goal

pub returns : goal.returns
returns c = rw (← c.self.view_is) (c.first_by.ensures ∙ first_is_due c.self.inside.records.items c.self.inside.kept.queue c.args.t (numbered 0 _ c.self.invariant.records) c.self.invariant.listed)
