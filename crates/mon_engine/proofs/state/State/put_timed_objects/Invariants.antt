use Rattle.std.proofs.Common.{◌≡◌, ◌++◌}
use Rattle.cmd_types.specs.Growth.{Grows}
use Rattle.mon_engine.specs.Report.{each_index}
use Rattle.mon_engine.specs.Status.{object_lines}
use Rattle.mon_engine.proofs.state.State.put_timed_objects.Given as goal

abbrev pub invariant-loop-object : goal.invariant-loop-object
invariant-loop-object l = record {
  put : l.out.items ≡ l.fn.out.items ++ each_index (object_lines l.inventory l.self) l.object;
  grown : Grows l.fn.out.items l.out.items;
}
