use Rattle.std.proofs.Common.{◌≡◌}
use Rattle.cmd_dispatch.proofs.tests.queue.send_a_hundred.Given as goal

abbrev pub invariant-loop-time : goal.invariant-loop-time
invariant-loop-time g l = l.side.queue ≡ l.fn.side.queue
