use Rattle.std.proofs.Common.{◌≡◌, None, fold, take, slice_get}
use Rattle.mon_notify.specs.Places.{lesser_at}
use Rattle.mon_notify.proofs.escalations.least_interval.Given as goal

abbrev pub invariant-loop-place : goal.invariant-loop-place
invariant-loop-place l =
    l.least ≡ fold (λ least n. lesser_at l.number l.letter least (slice_get l.escalations n)) None (take l.place-index l.places)
