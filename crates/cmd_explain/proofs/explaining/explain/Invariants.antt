use Rattle.std.proofs.Common.{◌≡◌, ◌++◌, ◌&&◌}
use Rattle.std.specs.List.{list_all}
use Rattle.cmd_types.specs.TextLines.{left, lines_left}
use Rattle.cmd_explain.specs.Explained.{is_known, whole_lines, shown_lines, ended, explained, is_all_known}
use Rattle.cmd_explain.proofs.explaining.explain.Given as goal

abbrev pub invariant-lines : goal.invariant-lines
invariant-lines l = record {
  text_so_far : l.out.items ++ ended (shown_lines (whole_lines (lines_left l.lines))) ≡ explained l.text;
  known_so_far : (l.is_known && list_all is_known (whole_lines (lines_left l.lines))) ≡ is_all_known l.text;
}

abbrev pub decreases-lines : goal.decreases-lines
decreases-lines l = left l.lines
