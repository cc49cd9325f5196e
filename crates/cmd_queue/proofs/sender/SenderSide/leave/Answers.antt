use Rattle.crossbeam_channel.specs.Claims.{view}
use Rattle.cmd_queue.proofs.Senders.{not_marked}
use Rattle.cmd_queue.proofs.sender.SenderSide.leave.Goals as goal

pub invariant_of-result : goal.invariant_of-result
invariant_of-result c = (c.self.invariant.0, not_marked (view c.self.inside.pass) _ _ c.self.invariant.1)
