use Rattle.cmd_queue.proofs.closed_sender.ClosedSender.marked.Goals as goal

pub returns-clause-marked : goal.returns-clause-marked
returns-clause-marked c = rw (← c.self.view_is)
