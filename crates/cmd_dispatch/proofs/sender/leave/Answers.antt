use Rattle.std.proofs.Common.{[], ◌∙◌, sym, ap, append-nil}
use Rattle.cmd_queue.specs.Sides.{Ended}
use Rattle.cmd_dispatch.proofs.sender.leave.Goals as goal

pub returns : goal.returns
returns g c = (
  c.args.side.list,
  ([], sym (append-nil c.args.side.list)),
  record {
    queue_is = ap (λ (e : Ended). e.queue) c.leave.ensures;
    sender_is = ap (λ (e : Ended). e.sender) c.leave.ensures;
    sent_is = ap (λ (e : Ended). e.list) c.leave.ensures;
    ending_is = c.end.ensures.ending;
    accepted = c.end.ensures.accepted ∙ c.sent.ensures.count;
    kept = c.end.ensures.kept;
  },
)
