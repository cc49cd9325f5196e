use Rattle.std.proofs.Common.{◌≡◌, ◌≤◌, length, map, take, vec_capacity}
use Rattle.cmd_live.proofs.live.signal.Signal.new.Given as goal

abbrev pub invariant-loop-feed : goal.invariant-loop-feed
invariant-loop-feed g l = record {
  gates : map (λ g. g.path.now) l.gates.items ≡ map (λ f. f.path.now) (take l.feed-index l.feeds);
  count : length l.gates.items ≡ l.feed-index;
  room : length l.feeds ≤ vec_capacity l.gates;
}
