use Rattle.std.proofs.Common.{◌≡◌, ◌++◌}
use Rattle.cmd_types.specs.Growth.{Grows}
use Rattle.mon_engine.specs.Report.{each_index}
use Rattle.mon_state.specs.State.{object_line}
use Rattle.mon_state.proofs.named_lines.put_objects.Given as goal

abbrev pub invariant-loop-object : goal.invariant-loop-object
invariant-loop-object l = record {
  put : l.out.items ≡ l.fn.out.items ++ each_index (object_line l.version l.inventory.objects l.objects) l.object;
  grown : Grows l.fn.out.items l.out.items;
}
