use Rattle.std.proofs.Common.{refl}
use Rattle.crossbeam_channel.specs.Claims.{view}
use Rattle.cmd_queue.proofs.Steps.{sends}
use Rattle.cmd_queue.proofs.Senders.{may_send, sent_commands}
use Rattle.cmd_queue.proofs.sender.SenderSide.submit.Goals as goal

pub put-requires-clause-sends : goal.put-requires-clause-sends
put-requires-clause-sends g c = λ n. sends _ _ _ _ (may_send (view c.self.inside.pass) _ _ _ c.self.invariant.1 refl (refl, refl, tt) (rw (← c.self.view_is) at c.requires.planned))

pub invariant_of-self : goal.invariant_of-self
invariant_of-self g c = (c.put.ensures.channel.0, sent_commands (view c.self.inside.pass) _ _ _ c.self.invariant.1 _ _ (refl, refl, tt) refl refl c.in-Ok.ensures.rule)
