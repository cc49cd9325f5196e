use Rattle.std.proofs.Common.{◌≡◌, ℕ, ◌+◌, ◌-◌, ◌<◌, ◌≤◌, true, eqb, cond, length}
use Rattle.mon_downtime.specs.Queue.{queued}
use Rattle.mon_downtime.specs.Rings.{is_in, is_place, is_open}
use Rattle.mon_downtime.specs.Waiting.{is_unopened}
use Rattle.mon_downtime.proofs.problem.first_open.Given as goal

-- none before `id` is open
abbrev pub invariant-loop-id : goal.invariant-loop-id
invariant-loop-id l = record {
  place : is_place (is_in l.records (is_unopened l.records (queued l.wait.openings)) l.object) l.id ≡ true;
  within : l.id ≤ length l.records;
  least : (y : ℕ) → is_in l.records (is_unopened l.records (queued l.wait.openings)) l.object y ≡ true → is_open l.records l.clock y ≡ true → (0 < l.id) × (l.id ≤ y);
}

abbrev pub decreases-loop-id : goal.decreases-loop-id
decreases-loop-id l = cond (eqb l.id 0) 0 (length l.records + 1 - l.id)
