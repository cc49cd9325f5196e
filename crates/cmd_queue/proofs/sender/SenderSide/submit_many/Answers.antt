use Rattle.std.proofs.Common.{◌+◌, ap, arith}
use Rattle.crossbeam_channel.specs.Claims.{view}
use Rattle.cmd_queue.specs.Rows.{Row}
use Rattle.cmd_queue.proofs.Steps.{sends}
use Rattle.cmd_queue.proofs.Senders.{may_send, sent_commands, row_carries, row_next, row_open, row_length}
use Rattle.cmd_queue.proofs.sender.SenderSide.submit_many.Goals as goal

pub put-requires-clause-sends : goal.put-requires-clause-sends
put-requires-clause-sends g c = λ n.
    let row = c.new.result in
    let carries = row_carries _ _ c.args.commands.items row c.new.ensures in
    sends _ _ _ _ (may_send (view c.self.inside.pass) _ _ _ c.self.invariant.1 (ap (λ (r : Row). r.sender) c.new.ensures) (row_next _ _ c.args.commands.items row c.new.ensures) (rw (← c.self.view_is, ← carries) at c.requires.planned))

pub invariant_of-self : goal.invariant_of-self
invariant_of-self g c =
    let all = row_length _ _ c.args.commands.items c.new.result c.new.ensures in (
      c.put.ensures.channel.0,
      sent_commands (view c.self.inside.pass) _ _ _ c.self.invariant.1 _ _ (row_next _ _ c.args.commands.items c.new.result c.new.ensures)
          (row_open _ _ c.args.commands.items c.new.result c.new.ensures)
          (omega (arith, all, c.len.ensures, c.args.commands.ok.0))
          c.in-Ok.ensures.rule,
    )

pub returns-in-Ok-clause-place : goal.returns-in-Ok-clause-place
returns-in-Ok-clause-place g c = rw (← c.self.view_is) (ap (λ n. n + 1) c.self.invariant.1.2)
