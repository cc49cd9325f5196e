use Rattle.std.proofs.Common.{ℕ, ◌<◌}
use Rattle.mon_engine.specs.Misfits.{OwedFits}
use Rattle.mon_engine.proofs.parts.misfit_of_owed.Given as goal

abbrev pub invariant-loop-place : goal.invariant-loop-place
invariant-loop-place l = (k : ℕ) → k < l.place → OwedFits l.inventory l.before l.owed k
