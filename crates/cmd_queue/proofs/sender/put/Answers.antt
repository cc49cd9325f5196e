use Rattle.std.proofs.Common.{◌≡◌, ℕ, sym, subst}
use Rattle.crossbeam_channel.specs.Fifo.{Pushes}
use Rattle.cmd_queue.specs.declared.message.Message.{Message}
use Rattle.cmd_queue.specs.declared.rule.View.{View}
use Rattle.cmd_queue.specs.Rule.{Ruled}
use Rattle.cmd_queue.specs.Views.{Put}
use Rattle.cmd_queue.proofs.sender.put.Goals as goal

-- both calls send by the rule, of the message and at the view that came in
sent_so : (n k i : ℕ) (v w : View) (m o : Message) → ((n : ℕ) → Pushes Ruled n i w o (Put w o)) → k ≡ i → v ≡ w → m ≡ o → Pushes Ruled n k v m (Put v m)
sent_so n k i v w m o may same_pass same message =
    subst (λ (t : ℕ × View × Message). Pushes Ruled n t.0 t.1 t.2 (Put t.1 t.2)) (λ i. (sym same_pass i, sym same i, sym message i)) (may n)

pub try_send_as-requires-clause-rule : goal.try_send_as-requires-clause-rule
try_send_as-requires-clause-rule g c =
    let was = c.loop.invariant in
    (sent_so _ _ _ _ _ _ _ c.requires.sends was.channel.1 was.same was.message, λ items views h at. tt)

pub send_as-requires-clause-rule : goal.send_as-requires-clause-rule
send_as-requires-clause-rule g c =
    let was = c.loop.invariant in
    (sent_so _ _ _ _ _ _ _ c.requires.sends was.channel.1 was.same was.message, λ items views h at. tt)
