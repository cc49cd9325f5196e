use Rattle.std.proofs.Common.{◌≡◌}
use Rattle.cmd_dispatch.specs.Sends.{IsMaking}
use Rattle.cmd_dispatch.proofs.making.send_each.Given as goal

abbrev pub invariant-commands : goal.invariant-commands
invariant-commands g l = record {
  making : IsMaking (g.F.Feed.remaining l.fn.feed) (g.F.Feed.remaining l.feed) l.counter l.side (g.P.Reporter.has_taken l.report);
  queue : l.side.queue ≡ l.fn.side.queue;
  sender : l.side.sender ≡ l.fn.side.sender;
}
