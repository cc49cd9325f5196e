use Rattle.std.proofs.Common.{sym, subst}
use Rattle.mon_downtime.specs.Order.{Ascending}
use Rattle.mon_downtime.specs.Queue.{IsPlaceOf, queued}
use Rattle.mon_downtime.proofs.BlockLemmas.{ascending_put, has-put}
use Rattle.mon_downtime.proofs.queue.Queue.insert_block.Goals as goal

pub returns-then-at-events-clause-events : goal.returns-then-at-events-clause-events
returns-then-at-events-clause-events c = λ e. rw c.insert_before.ensures.events (has-put c.place_of-at.result (queued c.args.self.now) c.args.first c.args.count e)

pub returns-then-at-events-clause-queue : goal.returns-then-at-events-clause-queue
returns-then-at-events-clause-queue c =
    let es = queued c.args.self.now in
    let p : IsPlaceOf es c.args.first c.place_of-at.result = rw (← c.events-events.ensures) c.place_of-at.ensures in
    record {
      within = c.insert_before.ensures.within;
      ascending = subst Ascending (sym c.insert_before.ensures.events) (ascending_put c.place_of-at.result es c.args.first c.args.count c.requires.queue.ascending p c.requires.new);
    }

pub returns-else-at-events-clause-events : goal.returns-else-at-events-clause-events
returns-else-at-events-clause-events c = λ e. rw c.insert_behind.ensures.events (has-put c.place_of-at.result (queued c.args.self.now) c.args.first c.args.count e)

pub returns-else-at-events-clause-queue : goal.returns-else-at-events-clause-queue
returns-else-at-events-clause-queue c =
    let es = queued c.args.self.now in
    let p : IsPlaceOf es c.args.first c.place_of-at.result = rw (← c.events-events.ensures) c.place_of-at.ensures in
    record {
      within = c.insert_behind.ensures.within;
      ascending = subst Ascending (sym c.insert_behind.ensures.events) (ascending_put c.place_of-at.result es c.args.first c.args.count c.requires.queue.ascending p c.requires.new);
    }
