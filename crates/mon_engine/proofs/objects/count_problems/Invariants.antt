use Rattle.std.proofs.Common.{◌≡◌, ◌+◌, ◌≤◌, drop}
use Rattle.std.specs.Prelude.{count_by}
use Rattle.mon_engine.specs.Figures.{is_problem}
use Rattle.mon_engine.proofs.objects.count_problems.Given as goal

abbrev pub invariant-loop-object : goal.invariant-loop-object
invariant-loop-object l = record {
  counted : l.count + count_by is_problem (drop l.object-index l.list) ≡ count_by is_problem l.list;
  few : l.count ≤ l.object-index;
}
