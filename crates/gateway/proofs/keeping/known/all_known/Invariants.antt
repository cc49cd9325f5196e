-- What stays true in the loop of `all_known`.
use Rattle.std.proofs.Common.{◌≡◌, ◌++◌, map, drop}
use Rattle.gateway.specs.KnownFeeds.{known_from}
use Rattle.gateway.proofs.keeping.known.all_known.Given as goal

abbrev pub invariant-loop-number : goal.invariant-loop-number
invariant-loop-number l = map (λ k. (k.commands, k.last.now)) l.known.items ++ known_from l.fn.feeds.clock l.number (drop l.number l.fn.feeds.list) ≡ known_from l.fn.feeds.clock 0 l.fn.feeds.list
