use Rattle.std.proofs.Common.{◌≡◌}
use Rattle.crossbeam_channel.specs.Claims.{view, IsSeatAt}
use Rattle.crossbeam_channel.specs.Ends.{sends_on}
use Rattle.cmd_queue.proofs.sender.put.Given as goal

abbrev pub invariant-loop : goal.invariant-loop
invariant-loop g l = record {
  channel : IsSeatAt (sends_on l.fn.end) l.pass × (l.pass.id ≡ l.fn.pass.id);
  same : view l.pass ≡ view l.fn.pass;
  message : l.message ≡ l.fn.message;
}
