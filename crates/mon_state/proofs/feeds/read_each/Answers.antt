use Rattle.std.proofs.Common.{◌+◌, ◌-◌, arith}
use Rattle.mon_state.specs.FileReading.{next_feed}
use Rattle.mon_state.proofs.CursorLemmas.{many_more, many_fails, many_end, exit_fails}
use Rattle.mon_state.proofs.feeds.read_each.Goals as goal

pub returns-in_err-read_feed : goal.returns-in_err-read_feed
returns-in_err-read_feed c =
    exit_fails _ c.from_residual.result _ c.in_err-read_feed.field-0.0 c.read_feed.new.cursor.last c.from_residual.ensures.1
    (many_fails next_feed (c.args.count - c.loop.counter) (c.args.count - (c.loop.counter + 1)) c.loop.feeds.items c.loop.cursor.rest _ c.in_err-read_feed.field-0.0 c.read_feed.new.cursor.last (let more = c.loop-test.true in omega arith) c.in_err-read_feed.ensures c.loop.invariant)

pub loop-preserved : goal.loop-preserved
loop-preserved c =
    rw c.in_ok-push.ensures.items
    (many_more next_feed (c.args.count - c.loop.counter) (c.args.count - (c.loop.counter + 1)) c.loop.feeds.items c.in_ok-read_feed.field-0 c.loop.cursor.rest c.read_feed.new.cursor.rest _ (let more = c.loop-test.true in omega arith) c.in_ok-read_feed.ensures c.loop.invariant)

pub returns : goal.returns
returns c = many_end next_feed (c.args.count - c.loop.counter) c.loop.feeds.items c.loop.cursor.rest _ (let done = c.loop-test.false in omega arith) c.loop.invariant
