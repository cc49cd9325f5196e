use Rattle.std.proofs.Common.{◌≡◌, ◌+◌, drop}
use Rattle.mon_state.specs.Faults.{difference}
use Rattle.mon_state.proofs.places.difference.Given as goal

abbrev pub invariant-loop-place : goal.invariant-loop-place
invariant-loop-place l = difference l.text l.other ≡ l.place + difference (drop l.place l.text) (drop l.place l.other)
