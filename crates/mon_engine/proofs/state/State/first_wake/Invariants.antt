use Rattle.std.proofs.Common.{ℕ, ◌<◌, ◌≤◌}
use Rattle.mon_engine.specs.Wakes.{wakes}
use Rattle.mon_engine.proofs.state.State.first_wake.Given as goal

abbrev pub invariant-loop-object : goal.invariant-loop-object
invariant-loop-object l = (k : ℕ) → k < l.object → l.until ≤ wakes l.inventory l.self k
