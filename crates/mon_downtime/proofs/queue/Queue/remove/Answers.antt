use Rattle.std.proofs.Common.{sym, subst}
use Rattle.mon_downtime.specs.Order.{Ascending}
use Rattle.mon_downtime.specs.Queue.{queued}
use Rattle.mon_downtime.proofs.OrderLemmas.{found_there, has-removed, has-absent, ascending_removed}
use Rattle.mon_downtime.proofs.queue.Queue.remove.Goals as goal

pub returns-in-None-clause-events : goal.returns-in-None-clause-events
returns-in-None-clause-events c = λ e. has-absent (queued c.args.self.now) c.args.event.now e c.in-None.ensures.missing

pub returns-in-Some-clause-events : goal.returns-in-Some-clause-events
returns-in-Some-clause-events c = λ e.
    let f = c.in-Some.ensures.found in
    rw c.remove_at.ensures.events (has-removed c.in-Some.at (queued c.args.self.now) c.args.event.now e e c.requires.ascending f.within (f.there e))

pub returns-in-Some-clause-queue : goal.returns-in-Some-clause-queue
returns-in-Some-clause-queue c = record {
  within = c.remove_at.ensures.within;
  ascending = subst Ascending (sym c.remove_at.ensures.events) (ascending_removed c.in-Some.at (queued c.args.self.now) c.requires.ascending);
}

pub returns-in-Some-clause-was : goal.returns-in-Some-clause-was
returns-in-Some-clause-was c = sym (found_there (queued c.args.self.now) c.args.event.now c.in-Some.at c.in-Some.ensures.found)
