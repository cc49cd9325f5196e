use Rattle.std.proofs.Common.{◌≡◌, ◌<◌, ◌≤◌, true, length, map, unwrap_or}
use Rattle.std.specs.Prelude.{IfSome}
use Rattle.mon_downtime.specs.Cancel.{depends}
use Rattle.mon_downtime.specs.Kept.{AreKept}
use Rattle.mon_downtime.specs.Walk.{walked}
use Rattle.mon_downtime.proofs.EndedLemmas.{AreLike, ended_record, left_count}
use Rattle.mon_downtime.proofs.keeping.end_dependants.Given as goal

-- each dependant that the walk goes over is over, or is left at the next one
abbrev pub invariant-loop-next : goal.invariant-loop-next
invariant-loop-next l = record {
  within : unwrap_or l.next 0 ≤ length l.initial.records;
  some : IfSome l.next (λ at. 0 < at);
  one : 0 < unwrap_or l.next 0 → depends (walked l.initial.records l.fn.kept.links.items) l.id (unwrap_or l.next 0) ≡ true;
  done : l.records ≡ map (ended_record (walked l.initial.records l.fn.kept.links.items) l.id (unwrap_or l.next 0)) l.initial.records;
  like : AreLike l.records l.initial.records;
  links : l.kept.links.items ≡ l.fn.kept.links.items;
  kept : AreKept l.records l.kept;
}

abbrev pub decreases-loop-next : goal.decreases-loop-next
decreases-loop-next l = left_count (walked l.initial.records l.fn.kept.links.items) l.id (unwrap_or l.next 0) (λ _. true)
