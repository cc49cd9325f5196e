use Rattle.std.proofs.Common.{◌≡◌, ◌<◌, ◌≤◌, true, length, unwrap_or}
use Rattle.std.specs.Prelude.{IfSome}
use Rattle.mon_downtime.specs.Cancel.{depends}
use Rattle.mon_downtime.specs.Walk.{walked}
use Rattle.mon_downtime.proofs.EndedLemmas.{AreFound, left_count}
use Rattle.mon_downtime.proofs.cancel.active_dependants.Given as goal

-- each active dependant is found, or is left at the next one
abbrev pub invariant-loop-next : goal.invariant-loop-next
invariant-loop-next l = record {
  within : unwrap_or l.next 0 ≤ length l.records;
  some : IfSome l.next (λ at. 0 < at);
  one : 0 < unwrap_or l.next 0 → depends (walked l.records l.links) l.id (unwrap_or l.next 0) ≡ true;
  found : AreFound (walked l.records l.links) l.id (unwrap_or l.next 0) l.ids.items;
}

abbrev pub decreases-loop-next : goal.decreases-loop-next
decreases-loop-next l = left_count (walked l.records l.links) l.id (unwrap_or l.next 0) (λ _. true)
