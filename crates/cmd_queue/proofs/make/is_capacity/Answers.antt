use Rattle.std.proofs.Common.{arith}
use borrow.Author.Tests.{ltb-true, lt-ltb, leb-true, le-leb}
use Rattle.cmd_queue.specs.declared.make.TheConstants.{MOST_CAPACITY}
use Rattle.cmd_queue.proofs.make.is_capacity.Goals as goal

pub returns-then-capacity-gt0 : goal.returns-then-capacity-gt0
returns-then-capacity-gt0 c = ((λ yes. (c.if-capacity-gt0.true, leb-true c.args.capacity MOST_CAPACITY yes)), λ is. le-leb c.args.capacity MOST_CAPACITY is.1)

pub returns-else-capacity-gt0 : goal.returns-else-capacity-gt0
returns-else-capacity-gt0 c = ((λ yes. absurd (omega (arith, ltb-true 0 c.args.capacity yes))), λ is. lt-ltb 0 c.args.capacity is.0)
