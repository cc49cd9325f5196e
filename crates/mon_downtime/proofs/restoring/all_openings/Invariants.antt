use Rattle.std.proofs.Common.{◌≡◌, ◌≤◌, length, take}
use Rattle.std.specs.Prelude.{vec_len, vec_capacity}
use Rattle.std.specs.List.{flat_map}
use Rattle.mon_downtime.specs.Waiting.{openings_of}
use Rattle.mon_downtime.proofs.restoring.all_openings.Given as goal

abbrev pub invariant-loop-place : goal.invariant-loop-place
invariant-loop-place l = record {
  items : l.list.items ≡ flat_map openings_of (take l.place l.records);
  len : vec_len l.list ≤ l.place;
  room : length l.records ≤ vec_capacity l.list;
}
