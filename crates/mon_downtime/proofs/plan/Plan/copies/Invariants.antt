use Rattle.std.proofs.Common.{◌≡◌, replicate}
use Rattle.mon_downtime.proofs.plan.Plan.copies.Given as goal

abbrev pub invariant-loop : goal.invariant-loop
invariant-loop l = l.copies.items ≡ replicate l.counter l.self
