use Rattle.std.proofs.Common.{◌≡◌, vec_len, vec_capacity}
use Rattle.mon_downtime.specs.Queue.{block, written}
use Rattle.mon_downtime.proofs.queue.write_block.Given as goal

abbrev pub invariant-loop-i : goal.invariant-loop-i
invariant-loop-i l = record {
  items : l.list.items ≡ written l.at (block l.first l.i) l.i l.fn.list.items;
  long : vec_len l.list ≡ vec_len l.fn.list;
  room : vec_capacity l.list ≡ vec_capacity l.fn.list;
}
