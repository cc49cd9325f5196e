use Rattle.std.proofs.Common.{◌≡◌, true, ◌∙◌, ap, ℕ}
use Rattle.crossbeam_channel.specs.Fifo.{Pops}
use Rattle.cmd_queue.specs.declared.rule.View.{View}
use Rattle.cmd_queue.specs.Rule.{Ruled}
use Rattle.cmd_queue.specs.Views.{Took}
use Rattle.cmd_queue.proofs.Steps.{takes}
use Rattle.cmd_queue.proofs.dispatcher.receive.Goals as goal

-- both calls take by the rule, at the view that the pass had
taken_so : (n : ℕ) (v w : View) → v ≡ w → w.takes ≡ true → Pops Ruled n v (Took v)
taken_so n v w same may = takes n v (ap (λ (x : View). x.takes) same ∙ may)

pub try_recv_as-requires-clause-rule : goal.try_recv_as-requires-clause-rule
try_recv_as-requires-clause-rule g c = (taken_so _ _ _ c.loop.invariant.same c.requires.takes, λ items views h at. tt)

pub recv_as-requires-clause-rule : goal.recv_as-requires-clause-rule
recv_as-requires-clause-rule g c = (taken_so _ _ _ c.loop.invariant.same c.requires.takes, λ items views h at. tt)
