use Rattle.std.proofs.Common.{◌≡◌, ◌≤◌, length, map, take, vec_capacity}
use Rattle.cmd_live.proofs.numbered.number_feeds.Given as goal

abbrev pub invariant-loop-path : goal.invariant-loop-path
invariant-loop-path l = record {
  named : map (λ f. f.path.now) l.feeds.items ≡ map (λ p. p.now) (take l.path-index l.paths);
  count : length l.feeds.items ≡ l.path-index;
  room : length l.paths ≤ vec_capacity l.feeds;
}
