use Rattle.std.proofs.Common.{◌∙◌}
use Rattle.mon_downtime.proofs.downtimes.Downtimes.depth.Goals as goal

pub returns : goal.returns
returns c = rw (← c.self.view_is) (c.of.ensures ∙ c.self.invariant.counted.exact c.args.object)
