use Rattle.std.proofs.Common.{◌≡◌, ◌++◌, drop}
use Rattle.std.specs.List.{flat_map}
use Rattle.cmd_types.specs.Growth.{Grows}
use Rattle.mon_engine.specs.Report.{rejected_line}
use Rattle.mon_engine.proofs.report.put_rejections.Given as goal

abbrev pub invariant-loop-rejection : goal.invariant-loop-rejection
invariant-loop-rejection l = record {
  put : l.out.items ++ flat_map rejected_line (drop l.rejection-index l.rejections) ≡ l.fn.out.items ++ flat_map rejected_line l.rejections;
  grown : Grows l.fn.out.items l.out.items;
}
