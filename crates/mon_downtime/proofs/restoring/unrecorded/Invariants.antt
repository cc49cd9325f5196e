use Rattle.std.proofs.Common.{ℕ, ◌<◌, drop, slice_get}
use Rattle.std.specs.Prelude.{IfSome}
use Rattle.mon_downtime.specs.Records.{IsRecord, AreRecords}
use Rattle.mon_downtime.proofs.restoring.unrecorded.Given as goal

-- the records that are left are in order just where all are, and each before them is one
abbrev pub invariant-loop-place : goal.invariant-loop-place
invariant-loop-place l = record {
  on : AreRecords 0 l.records → AreRecords l.place (drop l.place l.records);
  back : AreRecords l.place (drop l.place l.records) → AreRecords 0 l.records;
  earlier : (k : ℕ) → k < l.place → IfSome (slice_get l.records k) (IsRecord k);
}
