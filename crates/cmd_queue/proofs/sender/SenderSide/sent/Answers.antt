use Rattle.cmd_queue.proofs.sender.SenderSide.sent.Goals as goal

pub returns-clause-count : goal.returns-clause-count
returns-clause-count c = rw (← c.self.view_is) c.self.invariant.1.2
