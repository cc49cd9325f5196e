use Rattle.std.proofs.Common.{◌≡◌, ◌++◌, ◌+◌, vec_len, vec_capacity}
use Rattle.mon_downtime.specs.Queue.{block}
use Rattle.mon_downtime.proofs.queue.put_block.Given as goal

abbrev pub invariant-loop-i : goal.invariant-loop-i
invariant-loop-i l = record {
  items : l.list.items ≡ l.fn.list.items ++ block l.first l.i;
  long : vec_len l.list ≡ vec_len l.fn.list + l.i;
  room : vec_capacity l.list ≡ vec_capacity l.fn.list;
}
