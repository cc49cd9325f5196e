use Rattle.std.proofs.Common.{◌∙◌, arith}
use Rattle.crossbeam_channel.specs.Claims.{view}
use Rattle.cmd_queue.specs.Rows.{row_taken}
use Rattle.cmd_queue.proofs.Takers.{answer_alone, counted, counted_row, marked, row_first, answered_planned, received_same}
use Rattle.cmd_queue.proofs.dispatcher.DispatcherSide.take_message.Goals as goal

pub invariant_of-self-in-One : goal.invariant_of-self-in-One
invariant_of-self-in-One g c = (
  c.next_message.ensures.channel.0,
  counted (view c.self.inside.pass) (view c.next_message.new.pass) (row_taken c.self.inside.rest) (row_taken c.next_message.new.rest) c.self.inside.tallies.items c.from.result c.index_mut.result.now c.self.invariant.1 c.index_mut.ensures.value c.in-One.entry
      (answer_alone _ _ _ _ _ (rw c.in-One.is at c.in_ok-together.ensures.next))
      c.from.ensures,
)

pub index_mut-requires-in-Row : goal.index_mut-requires-in-Row
index_mut-requires-in-Row g c =
    let row = c.in-Row.row in
    let first = row_first _ _ row.sender row.before row.commands (rw c.in-Row.is at c.in_ok-together.ensures.next).next (rw c.in-Row.is at c.in_ok-together.ensures.some) in
    omega (arith, first.0, c.from-in-Row.ensures, c.sender.ensures, c.self.invariant.1.1.0)

pub invariant_of-self-in-Row : goal.invariant_of-self-in-Row
invariant_of-self-in-Row g c = (
  c.next_message.ensures.channel.0,
  counted_row (view c.self.inside.pass) (view c.next_message.new.pass) (row_taken c.self.inside.rest) (row_taken c.next_message.new.rest) c.self.inside.tallies.items c.from-in-Row.result c.index_mut-in-Row.result.now c.self.invariant.1 c.index_mut-in-Row.ensures.value c.in-Row.row c.last_place.result
      (rw c.in-Row.is at c.in_ok-together.ensures.next)
      (rw c.in-Row.is at c.in_ok-together.ensures.some)
      (c.from-in-Row.ensures ∙ c.sender.ensures)
      c.last_place.ensures,
)

pub invariant_of-self-in-Closed : goal.invariant_of-self-in-Closed
invariant_of-self-in-Closed g c = (
  c.next_message.ensures.channel.0,
  marked (view c.self.inside.pass) (view c.next_message.new.pass) (row_taken c.self.inside.rest) (row_taken c.next_message.new.rest) c.self.inside.tallies.items c.from-in-Closed.result c.index_mut-in-Closed.result.now c.self.invariant.1 c.index_mut-in-Closed.ensures.value c.in-Closed.sender c.in-Closed.count
      (answer_alone _ _ _ _ _ (rw c.in-Closed.is at c.in_ok-together.ensures.next))
      c.from-in-Closed.ensures,
)

pub returns-in-Row-clause-some : goal.returns-in-Row-clause-some
returns-in-Row-clause-some g c = rw c.in-Row.is at c.in_ok-together.ensures.some

pub returns-in_err-together-clause-planned : goal.returns-in_err-together-clause-planned
returns-in_err-together-clause-planned g c =
    let lost = c.in_err-together.ensures.lost in
    answered_planned (view c.next_message.new.pass) (row_taken c.next_message.new.rest) (received_same (view c.self.inside.pass) _ _ _ c.self.invariant.1.0 lost.0 lost.1)

pub returns-in-One-clause-planned : goal.returns-in-One-clause-planned
returns-in-One-clause-planned g c = answered_planned (view c.next_message.new.pass) (row_taken c.next_message.new.rest) c.in_ok-together.ensures.next.received

pub returns-in-Row-clause-planned : goal.returns-in-Row-clause-planned
returns-in-Row-clause-planned g c = answered_planned (view c.next_message.new.pass) (row_taken c.next_message.new.rest) c.in_ok-together.ensures.next.received

pub returns-in-Closed-clause-planned : goal.returns-in-Closed-clause-planned
returns-in-Closed-clause-planned g c = answered_planned (view c.next_message.new.pass) (row_taken c.next_message.new.rest) c.in_ok-together.ensures.next.received
