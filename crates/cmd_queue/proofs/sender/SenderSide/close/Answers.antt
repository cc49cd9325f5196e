use Rattle.std.proofs.Common.{◌∙◌, sym}
use Rattle.crossbeam_channel.specs.Claims.{view}
use Rattle.cmd_queue.proofs.Steps.{sends}
use Rattle.cmd_queue.proofs.Senders.{may_send_mark, sent_mark, closed_after}
use Rattle.cmd_queue.proofs.sender.SenderSide.close.Goals as goal

pub put-requires-clause-sends : goal.put-requires-clause-sends
put-requires-clause-sends g c = λ n. sends _ _ _ _ (may_send_mark (view c.self.inside.pass) _ _ c.self.invariant.1)

pub invariant_of-result : goal.invariant_of-result
invariant_of-result g c = (c.put.ensures.channel.0, sent_mark (view c.self.inside.pass) _ _ _ c.self.invariant.1 c.in-Ok.ensures.rule)

pub returns-clause-closed : goal.returns-clause-closed
returns-clause-closed g c =
    let was = c.self.invariant.0 in
    let now = c.put.ensures.channel.0 in
    rw (← c.self.view_is) (closed_after c.self.inside.pass c.put.new.pass _ _ c.self.invariant.1 (λ i. record { table = (now.0 ∙ sym was.0) i; key = (now.1 ∙ sym was.1) i; plan = (c.in-Ok.ensures.rule i).plan }) c.in-Ok.ensures.rule)
