use Rattle.std.proofs.Common.{◌+◌, ◌-◌, arith}
use Rattle.mon_state.specs.Reading.{next_index}
use Rattle.mon_state.proofs.CursorLemmas.{many_more, many_fails, many_end, exit_fails}
use Rattle.mon_state.proofs.owed_lines.read_owing.Goals as goal

pub returns-in_err-small : goal.returns-in_err-small
returns-in_err-small c =
    exit_fails _ c.from_residual.result _ c.in_err-small.field-0.0 c.small.new.self.last c.from_residual.ensures.1
    (many_fails next_index (c.args.count - c.loop.counter) (c.args.count - (c.loop.counter + 1)) c.loop.contacts.items c.loop.cursor.rest _ c.in_err-small.field-0.0 c.small.new.self.last (let more = c.loop-test.true in omega arith) c.in_err-small.ensures.read c.loop.invariant)

pub loop-preserved : goal.loop-preserved
loop-preserved c =
    rw c.in_ok-push.ensures.items
    (many_more next_index (c.args.count - c.loop.counter) (c.args.count - (c.loop.counter + 1)) c.loop.contacts.items c.in_ok-small.field-0 c.loop.cursor.rest c.small.new.self.rest _ (let more = c.loop-test.true in omega arith) c.in_ok-small.ensures.read c.loop.invariant)

pub returns : goal.returns
returns c = many_end next_index (c.args.count - c.loop.counter) c.loop.contacts.items c.loop.cursor.rest _ (let done = c.loop-test.false in omega arith) c.loop.invariant
