use Rattle.std.proofs.Common.{refl, ne_eqb}
use Rattle.mon_downtime.proofs.due.start_of.Goals as goal

pub returns-then-d : goal.returns-then-d
returns-then-d c = rw (c.if-d-eq0.true, c.if-d.true) (cc)

pub returns-in-Active : goal.returns-in-Active
returns-in-Active c = rw (c.max-in-Active.ensures, ne_eqb _ _ c.if-d-eq0.false, ← c.in_ok-trigger.ensures, c.in-Active.is) refl
