use Rattle.std.proofs.Common.{ap}
use Rattle.cmd_queue.specs.Sides.{Taking}
use Rattle.cmd_queue.proofs.dispatcher.DispatcherSide.into_settled.Goals as goal

pub invariant_of-result : goal.invariant_of-result
invariant_of-result c = rw c.len-given_up.ensures c.self.invariant.1.1

pub returns-clause-list : goal.returns-clause-list
returns-clause-list c = rw c.len-given_up.ensures (ap (λ (t : Taking). t.list) c.self.view_is)
