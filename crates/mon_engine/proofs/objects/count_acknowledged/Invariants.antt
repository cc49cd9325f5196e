use Rattle.std.proofs.Common.{◌≡◌, ◌+◌, ◌≤◌, drop}
use Rattle.std.specs.Prelude.{count_by}
use Rattle.mon_engine.specs.Figures.{has_acknowledgement}
use Rattle.mon_engine.proofs.objects.count_acknowledged.Given as goal

abbrev pub invariant-loop-object : goal.invariant-loop-object
invariant-loop-object l = record {
  counted : l.count + count_by has_acknowledgement (drop l.object-index l.list) ≡ count_by has_acknowledgement l.list;
  few : l.count ≤ l.object-index;
}
