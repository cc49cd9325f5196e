use Rattle.crossbeam_channel.specs.Claims.{view}
use Rattle.cmd_queue.specs.Rows.{row_taken}
use Rattle.cmd_queue.proofs.Takers.{counted, marked, answered_planned, received_same}
use Rattle.cmd_queue.proofs.dispatcher.DispatcherSide.take.Goals as goal

pub invariant_of-self-in-Command : goal.invariant_of-self-in-Command
invariant_of-self-in-Command g c = (
  c.next.ensures.channel.0,
  counted (view c.self.inside.pass) (view c.next.new.pass) (row_taken c.self.inside.rest) (row_taken c.next.new.rest) c.self.inside.tallies.items c.from.result c.index_mut.result.now c.self.invariant.1 c.index_mut.ensures.value c.in-Command.entry
      (rw c.in-Command.is at c.in_ok-taken.ensures.next)
      c.from.ensures,
)

pub invariant_of-self-in-Closed : goal.invariant_of-self-in-Closed
invariant_of-self-in-Closed g c = (
  c.next.ensures.channel.0,
  marked (view c.self.inside.pass) (view c.next.new.pass) (row_taken c.self.inside.rest) (row_taken c.next.new.rest) c.self.inside.tallies.items c.from-in-Closed.result c.index_mut-in-Closed.result.now c.self.invariant.1 c.index_mut-in-Closed.ensures.value c.in-Closed.sender c.in-Closed.count
      (rw c.in-Closed.is at c.in_ok-taken.ensures.next)
      c.from-in-Closed.ensures,
)

pub returns-in_err-taken-clause-planned : goal.returns-in_err-taken-clause-planned
returns-in_err-taken-clause-planned g c =
    let lost = c.in_err-taken.ensures.lost in
    answered_planned (view c.next.new.pass) (row_taken c.next.new.rest) (received_same (view c.self.inside.pass) _ _ _ c.self.invariant.1.0 lost.0 lost.1)

pub returns-in-Command-clause-planned : goal.returns-in-Command-clause-planned
returns-in-Command-clause-planned g c = answered_planned (view c.next.new.pass) (row_taken c.next.new.rest) c.in_ok-taken.ensures.next.received

pub returns-in-Closed-clause-planned : goal.returns-in-Closed-clause-planned
returns-in-Closed-clause-planned g c = answered_planned (view c.next.new.pass) (row_taken c.next.new.rest) c.in_ok-taken.ensures.next.received
