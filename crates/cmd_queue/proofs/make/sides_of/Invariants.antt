use Rattle.std.proofs.Common.{◌≡◌, ◌<◌, ℕ, [], length, slice_index_or}
use Rattle.crossbeam_channel.specs.Claims.{view, IsSeatAt}
use Rattle.crossbeam_channel.specs.Ends.{sends_on}
use Rattle.cmd_queue.specs.Sides.{Sent, new_side}
use Rattle.cmd_queue.specs.Ends.{queue_of}
use Rattle.cmd_queue.specs.Views.{taker_view}
use Rattle.cmd_queue.proofs.make.sides_of.Given as goal

abbrev pub invariant-loop-sender : goal.invariant-loop-sender
invariant-loop-sender l = record {
  seated : IsSeatAt (sends_on l.first) l.pass;
  knows : view l.pass ≡ taker_view (view l.fn.pass).plan l.sender [] [];
  one_each : length l.sides.items ≡ l.sender;
  numbered : (k : ℕ) (d : Sent) → k < l.sender → slice_index_or l.sides.items k d ≡ new_side (queue_of l.pass) k;
}
