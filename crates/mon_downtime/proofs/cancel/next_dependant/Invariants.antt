use Rattle.std.proofs.Common.{◌<◌, ◌≤◌, length}
use Rattle.mon_downtime.specs.Walk.{walked}
use Rattle.mon_downtime.proofs.NextLemmas.{IsUp}
use Rattle.mon_downtime.proofs.cancel.next_dependant.Given as goal

-- what is left after `at` is what is behind `up`
abbrev pub invariant-loop-up : goal.invariant-loop-up
invariant-loop-up l = record {
  up : IsUp (walked l.records l.links) l.id l.at l.up;
  some : 0 < l.up;
  last : l.up ≤ length l.records;
}

abbrev pub decreases-loop-up : goal.decreases-loop-up
decreases-loop-up l = l.up
