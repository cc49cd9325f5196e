use Rattle.std.proofs.Common.{◌≡◌, length, map, drop}
use Rattle.gateway.specs.KnownFeeds.{renewed}
use Rattle.gateway.proofs.keeping.known.renew.Given as goal

abbrev pub invariant-loop-place : goal.invariant-loop-place
invariant-loop-place g l = record {
  count : length l.feeds.list ≡ length l.fn.feeds.list;
  clock : l.feeds.clock ≡ l.fn.feeds.clock;
  list : renewed (drop l.place (map (λ x. x.feed) l.fn.run.signal.gates.items)) (drop l.place l.fn.starts) l.feeds.list ≡ renewed (map (λ x. x.feed) l.fn.run.signal.gates.items) l.fn.starts l.fn.feeds.list;
}
