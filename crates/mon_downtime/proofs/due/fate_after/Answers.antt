use Rattle.std.proofs.Common.{refl}
use Rattle.mon_downtime.proofs.due.fate_after.Goals as goal

pub returns-else-d-clause-fate : goal.returns-else-d-clause-fate
returns-else-d-clause-fate c = rw (← c.kind.ensures, c.in-Starts.is, c.moment-since.ensures, c.if-d.false) refl
