use Rattle.std.proofs.Common.{arith}
use Rattle.mon_downtime.proofs.downtimes.Downtimes.last_id.Goals as goal

pub returns : goal.returns
returns c = rw (← c.self.view_is) (omega (arith, c.len.ensures, c.self.inside.records.ok))
