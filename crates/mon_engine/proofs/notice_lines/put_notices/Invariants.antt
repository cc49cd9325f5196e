use Rattle.std.proofs.Common.{◌≡◌, ◌++◌, drop}
use Rattle.std.specs.List.{flat_map}
use Rattle.cmd_types.specs.Growth.{Grows}
use Rattle.mon_engine.specs.Report.{notice_line}
use Rattle.mon_engine.proofs.notice_lines.put_notices.Given as goal

abbrev pub invariant-loop-notice : goal.invariant-loop-notice
invariant-loop-notice l = record {
  put : l.out.items ++ flat_map (notice_line l.inventory) (drop l.notice-index l.notices) ≡ l.fn.out.items ++ flat_map (notice_line l.inventory) l.notices;
  grown : Grows l.fn.out.items l.out.items;
}
