use Rattle.std.proofs.Common.{◌≡◌}
use Rattle.cmd_recovery.specs.Assigns.{places_to}
use Rattle.cmd_recovery.proofs.feeds.roles.places.Given as goal

abbrev pub invariant-loop-place : goal.invariant-loop-place
invariant-loop-place l = l.places.items ≡ places_to l.place
