use Rattle.std.proofs.Common.{rules}
use Rattle.mon_engine.proofs.downtimes.has_downtime.Goals as goal

pub returns-in_default : goal.returns-in_default
returns-in_default c = search rules
