use Rattle.std.proofs.Common.{◌≡◌, take}
use Rattle.cmd_recovery.proofs.feeds.assigning.copied.Given as goal

abbrev pub invariant-loop-feed : goal.invariant-loop-feed
invariant-loop-feed l = l.list.items ≡ take l.feed-index l.feeds
