use Rattle.cmd_run.proofs.fault.RunCause.number.Goals as goal

pub returns-in-QueueLost : goal.returns-in-QueueLost
returns-in-QueueLost c = rw c.in-QueueLost.is
