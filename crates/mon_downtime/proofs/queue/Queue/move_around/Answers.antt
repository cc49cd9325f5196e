use Rattle.std.proofs.Common.{sym, subst}
use Rattle.mon_downtime.specs.Order.{Ascending}
use Rattle.mon_downtime.specs.Queue.{queued}
use Rattle.mon_downtime.proofs.OrderLemmas.{ascending_removed}
use Rattle.mon_downtime.proofs.queue.Queue.move_around.Goals as goal

pub insert_block-requires-clause-queue : goal.insert_block-requires-clause-queue
insert_block-requires-clause-queue c = record {
  within = c.remove_at.ensures.within;
  ascending = subst Ascending (sym c.remove_at.ensures.events) (ascending_removed c.args.from (queued c.args.self.now) c.requires.queue.ascending);
}
