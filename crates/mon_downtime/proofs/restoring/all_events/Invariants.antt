use Rattle.std.proofs.Common.{◌≡◌, ◌*◌, ◌≤◌, length, take}
use Rattle.std.specs.Prelude.{vec_len, vec_capacity}
use Rattle.std.specs.List.{flat_map}
use Rattle.mon_downtime.specs.Events.{events_of}
use Rattle.mon_downtime.proofs.restoring.all_events.Given as goal

abbrev pub invariant-loop-place : goal.invariant-loop-place
invariant-loop-place l = record {
  items : l.list.items ≡ flat_map (events_of l.records) (take l.place l.records);
  len : vec_len l.list ≤ 2 * l.place;
  room : 2 * length l.records ≤ vec_capacity l.list;
}
