use Rattle.std.proofs.Common.{ap, subst}
use Rattle.crossbeam_channel.specs.Claims.{view}
use Rattle.cmd_queue.specs.declared.rule.View.{View}
use Rattle.cmd_queue.specs.Sides.{Taking, Ended, IsSettled}
use Rattle.cmd_queue.specs.Rows.{row_taken}
use Rattle.cmd_queue.proofs.Steps.{merges, settles}
use Rattle.cmd_queue.proofs.Takers.{kept_settled}
use Rattle.cmd_queue.proofs.closed_sender.ClosedSender.hand_in.Goals as goal

pub absorb-requires-clause-rule : goal.absorb-requires-clause-rule
absorb-requires-clause-rule c = merges _ (view c.dispatcher.inside.pass) _ (view c.self.inside.pass) c.dispatcher.invariant.1.0.takes c.self.invariant.1.0

pub learn_as-requires-clause-rule : goal.learn_as-requires-clause-rule
learn_as-requires-clause-rule c = settles _ (view c.absorb.new.pass) (ap (λ (v : View). v.takes) c.absorb.ensures.rule)

pub returns-clause-settled : goal.returns-clause-settled
returns-clause-settled c =
    subst (λ (y : Ended × Taking). IsSettled y.1 y.0) (λ i. (c.self.view_is i, c.dispatcher.view_is i))
    (kept_settled c.dispatcher.inside.pass c.self.inside.pass c.self.inside.marked (view c.absorb.new.pass) (row_taken c.dispatcher.inside.rest) c.dispatcher.invariant.1.0 c.absorb.ensures.rule c.learn_as.ensures.rule.1)
