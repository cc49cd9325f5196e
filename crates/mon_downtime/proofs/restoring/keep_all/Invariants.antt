use Rattle.std.proofs.Common.{length, take}
use Rattle.mon_downtime.specs.Kept.{AreRestored}
use Rattle.mon_downtime.proofs.restoring.keep_all.Given as goal

abbrev pub invariant-loop-place : goal.invariant-loop-place
invariant-loop-place l = AreRestored (length l.records) (take l.place l.records) l.kept
