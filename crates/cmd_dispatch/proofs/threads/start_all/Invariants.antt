use Rattle.std.proofs.Common.{◌≡◌, vec_capacity}
use Rattle.std.specs.Vec.Iter.{into_iter_items}
use Rattle.cmd_dispatch.specs.Threads.{AreStarting}
use Rattle.cmd_dispatch.proofs.threads.start_all.Given as goal

abbrev pub invariant-loop-feed : goal.invariant-loop-feed
invariant-loop-feed g l = record {
  starting : AreStarting l.fn.senders.sides.items l.fn.senders.feeds.items l.fn.senders.reports.items l.fn.senders.reading (into_iter_items l.sides) (into_iter_items l.feed-iterator) (into_iter_items l.reports) l.started.items;
  capacity : vec_capacity l.started ≡ vec_capacity l.initial.started;
}
