use Rattle.cmd_queue.proofs.sender.SenderSide.sender.Goals as goal

pub returns : goal.returns
returns c = rw (← c.self.view_is) c.self.invariant.1.1
