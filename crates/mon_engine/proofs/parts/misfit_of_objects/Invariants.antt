use Rattle.std.proofs.Common.{ℕ, ◌<◌}
use Rattle.mon_engine.specs.Misfits.{ObjectFits}
use Rattle.mon_engine.proofs.parts.misfit_of_objects.Given as goal

abbrev pub invariant-loop-place : goal.invariant-loop-place
invariant-loop-place l = (k : ℕ) → k < l.place → ObjectFits l.before l.specs l.objects k
