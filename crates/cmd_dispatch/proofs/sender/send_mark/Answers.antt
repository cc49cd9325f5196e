use Rattle.std.proofs.Common.{inl, inr, ap, ◌∙◌}
use Rattle.cmd_queue.specs.Sides.{Ended}
use Rattle.cmd_dispatch.proofs.SendLemmas.{left_same}
use Rattle.cmd_dispatch.proofs.sender.send_mark.Goals as goal

pub returns-in-Ok : goal.returns-in-Ok
returns-in-Ok g c =
    let closed = c.in-Ok.ensures.closed in
    inl record {
      queue_is = ap (λ (e : Ended). e.queue) closed;
      sender_is = ap (λ (e : Ended). e.sender) closed;
      sent_is = ap (λ (e : Ended). e.list) closed;
      ending_is = c.end.ensures.ending;
      accepted = c.end.ensures.accepted ∙ c.sent-accepted.ensures.count;
      kept = c.end.ensures.kept;
    }

pub returns-in-Err : goal.returns-in-Err
returns-in-Err g c =
    inr (left_same c.args.side c.in-Err.side (g.P.Reporter.has_taken c.args.report) (g.P.Reporter.has_taken c.args.report) c.leave.result.0 (g.P.Reporter.view c.leave.result.1) (g.P.Reporter.has_taken c.leave.result.1) c.in-Err.ensures.refused (λ refused told. told) c.leave.ensures)
