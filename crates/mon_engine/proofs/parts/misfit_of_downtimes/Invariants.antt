use Rattle.std.proofs.Common.{ℕ, ◌<◌, get_or}
use Rattle.mon_downtime.specs.declared.downtime.Downtime.{Downtime}
use Rattle.mon_engine.specs.Saved.{IsSaidDowntime}
use Rattle.mon_engine.proofs.parts.misfit_of_downtimes.Given as goal

abbrev pub invariant-loop-place : goal.invariant-loop-place
invariant-loop-place l = (k : ℕ) (d : Downtime) → k < l.place → ((get_or l.downtimes k d).object < l.objects) × IsSaidDowntime (get_or l.downtimes k d)
