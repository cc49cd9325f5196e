use Rattle.std.proofs.Common.{◌≡◌, ◌++◌}
use Rattle.cmd_types.specs.Growth.{Grows}
use Rattle.mon_engine.specs.Report.{each_index}
use Rattle.mon_state.specs.State.{owed_line}
use Rattle.mon_state.proofs.owed_lines.put_all_owed.Given as goal

abbrev pub invariant-loop-object : goal.invariant-loop-object
invariant-loop-object l = record {
  put : l.out.items ≡ l.fn.out.items ++ each_index (owed_line l.inventory.objects l.owed) l.object;
  grown : Grows l.fn.out.items l.out.items;
}
