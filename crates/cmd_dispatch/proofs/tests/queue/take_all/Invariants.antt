use Rattle.std.proofs.Common.{◌≡◌}
use Rattle.cmd_dispatch.proofs.tests.queue.take_all.Given as goal

abbrev pub invariant-loop : goal.invariant-loop
invariant-loop g l =
    (goal.iterator-loop g).can_next l.iterator'
    × (goal.iterator-loop g).is_finite l.iterator'
    × (l.dispatcher.queue ≡ l.fn.dispatcher.queue)
    × (l.dispatcher.senders ≡ 2)
