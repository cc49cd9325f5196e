use Rattle.std.proofs.Common.{◌≡◌, ◌++◌}
use Rattle.cmd_types.specs.Growth.{Grows}
use Rattle.mon_engine.specs.Report.{each_index}
use Rattle.mon_state.specs.Feeds.{feed_lines}
use Rattle.mon_state.proofs.feeds.put_each.Given as goal

abbrev pub invariant-loop-number : goal.invariant-loop-number
invariant-loop-number l = record {
  put : l.out.items ≡ l.fn.out.items ++ each_index (feed_lines l.feeds) l.number;
  grown : Grows l.fn.out.items l.out.items;
}
