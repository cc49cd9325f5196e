use Rattle.cmd_run.proofs.fault.RunCause.sender.Goals as goal

pub returns-in-Spawn : goal.returns-in-Spawn
returns-in-Spawn c = rw c.in-Spawn.is
