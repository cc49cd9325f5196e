use Rattle.std.proofs.Common.{◌≡◌, ◌≤◌, length, vec_capacity}
use Rattle.cmd_live.proofs.live.opening.open_feeds.Given as goal

abbrev pub invariant-loop-feed : goal.invariant-loop-feed
invariant-loop-feed g l = record {
  count : length l.sources.items ≡ l.feed;
  room : length l.fn.gates ≤ vec_capacity l.sources;
  starts : length l.starts.items ≡ l.feed;
  places : length l.fn.gates ≤ vec_capacity l.starts;
}
