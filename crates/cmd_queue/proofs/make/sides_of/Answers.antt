use Rattle.std.proofs.Common.{◌≡◌, ◌∙◌, [], ap, refl}
use Rattle.crossbeam_channel.specs.Claims.{view}
use Rattle.cmd_queue.specs.declared.rule.View.{View}
use Rattle.cmd_queue.specs.Views.{sender_view}
use Rattle.cmd_queue.proofs.Steps.{forks}
use Rattle.cmd_queue.proofs.make.sides_of.Goals as goal

pub another-pass-requires-clause-rule : goal.another-pass-requires-clause-rule
another-pass-requires-clause-rule c = forks _ (view c.loop-sender.pass) (ap (λ (v : View). v.takes) c.loop-sender.invariant.knows)

pub invariant_of-push : goal.invariant_of-push
invariant_of-push c =
    let new : view c.another-pass.result ≡ sender_view (view c.args.pass.now).plan c.loop-sender.sender [] = c.another-pass.ensures.rule.1 ∙ ap (λ (v : View). sender_view v.plan v.made []) c.loop-sender.invariant.knows in
    (rw c.in_ok-end.ensures c.another-pass.ensures.channel.2, rw new (refl, refl, refl, tt, refl))
