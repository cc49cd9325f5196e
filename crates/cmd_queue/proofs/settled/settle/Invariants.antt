use Rattle.std.proofs.Common.{◌≡◌, ◌++◌}
use Rattle.std.specs.List.{All}
use Rattle.std.specs.Vec.Iter.{into_iter_items}
use Rattle.cmd_queue.specs.Sides.{Ended, IsSettled}
use Rattle.cmd_queue.proofs.settled.settle.Given as goal

abbrev pub invariant-loop-ended : goal.invariant-loop-ended
invariant-loop-ended l = record {
  same : l.dispatcher ≡ l.initial.dispatcher;
  parts : l.yielded ++ into_iter_items l.ended-iterator ≡ l.fn.ends.items;
  settled : All (λ (end : Ended). IsSettled l.initial.dispatcher end) l.yielded;
}
