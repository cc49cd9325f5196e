use Rattle.std.proofs.Common.{◌∙◌}
use Rattle.mon_downtime.proofs.downtimes.Downtimes.list.Goals as goal

pub returns-clause-all : goal.returns-clause-all
returns-clause-all c = c.deref.ensures.value ∙ c.self.view_is
