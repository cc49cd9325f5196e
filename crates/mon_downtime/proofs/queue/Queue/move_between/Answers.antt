use Rattle.std.proofs.Common.{◌-◌, sym, subst}
use Rattle.std.specs.List.{remove}
use Rattle.mon_downtime.specs.Order.{Ascending}
use Rattle.mon_downtime.specs.Queue.{queued}
use Rattle.mon_downtime.proofs.OrderLemmas.{ascending_removed}
use Rattle.mon_downtime.proofs.MoveLemmas.{has-one_put, ascending_one_put, place_later, place_sooner}
use Rattle.mon_downtime.proofs.queue.Queue.move_between.Goals as goal

pub returns-then-from-to-clause-events : goal.returns-then-from-to-clause-events
returns-then-from-to-clause-events c = λ e. rw c.put_later.ensures.events (has-one_put (remove (queued c.args.self.now) c.args.from) c.args.event e (c.args.to - 1))

pub returns-then-from-to-clause-queue : goal.returns-then-from-to-clause-queue
returns-then-from-to-clause-queue c =
    let es = queued c.args.self.now in
    record {
      within = c.put_later.ensures.within;
      ascending = subst Ascending (sym c.put_later.ensures.events) (ascending_one_put (remove es c.args.from) c.args.event (c.args.to - 1) (ascending_removed c.args.from es c.requires.queue.ascending) (place_later es c.args.event c.args.to c.args.from c.if-from-to.true c.requires.from c.requires.to) c.requires.new);
    }

pub returns-else-from-to-clause-events : goal.returns-else-from-to-clause-events
returns-else-from-to-clause-events c = λ e. rw c.put_sooner.ensures.events (has-one_put (remove (queued c.args.self.now) c.args.from) c.args.event e c.args.to)

pub returns-else-from-to-clause-queue : goal.returns-else-from-to-clause-queue
returns-else-from-to-clause-queue c =
    let es = queued c.args.self.now in
    record {
      within = c.put_sooner.ensures.within;
      ascending = subst Ascending (sym c.put_sooner.ensures.events) (ascending_one_put (remove es c.args.from) c.args.event c.args.to (ascending_removed c.args.from es c.requires.queue.ascending) (place_sooner es c.args.event c.args.to c.args.from c.if-from-to.false c.requires.from c.requires.to) c.requires.new);
    }
