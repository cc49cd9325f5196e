use Rattle.std.proofs.Common.{◌∙◌}
use Rattle.mon_downtime.proofs.downtimes.Downtimes.objects_in_downtime.Goals as goal

pub returns : goal.returns
returns c = rw (← c.self.view_is) (c.in_downtime.ensures ∙ c.self.invariant.counted.busy)
