use Rattle.cmd_queue.proofs.fault.QueueFault.number.Goals as goal

pub returns-in-BadSenders : goal.returns-in-BadSenders
returns-in-BadSenders c = rw c.in-BadSenders.is
