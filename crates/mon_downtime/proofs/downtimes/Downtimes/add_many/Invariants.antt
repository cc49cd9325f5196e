use Rattle.std.proofs.Common.{◌≡◌, ◌≤◌, ◌++◌, ◌+◌, ℕ, Bool, true, take, length, vec_len, vec_capacity}
use Rattle.std.specs.Prelude.{All}
use Rattle.mon_downtime.specs.Schedule.{new_records}
use Rattle.mon_downtime.specs.Kept.{AreNoted, HasRoom}
use Rattle.mon_downtime.specs.Rings.{AreRings}
use Rattle.mon_downtime.proofs.downtimes.Downtimes.add_many.Given as goal

-- a record for each object before, and a copy for each that follows
abbrev pub invariant-loop-object : goal.invariant-loop-object
invariant-loop-object l = record {
  added : l.self-inside.records.items ≡ l.fn.self ++ new_records (length l.fn.self) l.clock (take l.object-index l.objects) l.plan;
  long : vec_len l.self-inside.records ≡ length l.fn.self + l.object-index;
  left : vec_len l.copies + l.object-index ≡ length l.objects;
  copies : All (λ p. p ≡ l.plan) l.copies.items;
  room : HasRoom (length l.fn.self + length l.objects) (vec_capacity l.self-inside.records) l.self-inside.kept;
  noted : AreNoted l.self-inside.records.items l.self-inside.kept;
  queue : l.self-inside.kept.queue ≡ l.initial.self-inside.kept.queue;
  depths : l.self-inside.kept.depths ≡ l.initial.self-inside.kept.depths;
  openings : l.self-inside.kept.waiting.openings ≡ l.initial.self-inside.kept.waiting.openings;
  ends : l.self-inside.kept.waiting.rings.ends ≡ l.initial.self-inside.kept.waiting.rings.ends;
  rings : (out : ℕ → Bool) → ((x : ℕ) → length l.fn.self + 1 ≤ x → out x ≡ true) → AreRings l.fn.self out l.initial.self-inside.kept.waiting.rings → AreRings l.self-inside.records.items out l.self-inside.kept.waiting.rings;
}
