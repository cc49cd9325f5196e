use Rattle.std.proofs.Common.{refl, le-leb, rules}
use Rattle.std.proofs.lemmas.Bool.{lt-leb}
use Rattle.mon_downtime.proofs.plan.first_refusal.Goals as goal

pub returns-then-times-clock : goal.returns-then-times-clock
returns-then-times-clock c = rw (lt-leb _ _ c.if-times.false, le-leb _ _ c.if-times-clock.true) refl

pub returns-in-Over : goal.returns-in-Over
returns-in-Over c = search rules

pub returns-then-times-eq0-2 : goal.returns-then-times-eq0-2
returns-then-times-eq0-2 c = search rules
