use Rattle.std.proofs.Common.{◌≡◌, map, take}
use Rattle.gateway.proofs.bundle.readers_of.Given as goal

abbrev pub invariant-loop-feed : goal.invariant-loop-feed
invariant-loop-feed l = map (λ b. b.rest.now) l.readers.items ≡ map (λ f. f.now) (take l.feed-index l.feeds)
