use Rattle.cmd_dispatch.proofs.SendLemmas.{closed_told, left_early}
use Rattle.cmd_dispatch.proofs.making.send_made.Goals as goal

pub returns-in-Some : goal.returns-in-Some
returns-in-Some g c =
    let side = c.in-Some.ensures.side in
    closed_told (g.F.Feed.remaining c.args.feed.now) (g.F.Feed.remaining c.send_each.new.feed) (g.F.Feed.fails c.args.feed.now) (g.F.Feed.fills c.args.feed.now) c.args.reading.piece c.args.reading.reads c.args.side.queue c.args.side.sender c.in-Some.ending c.send_each.new.side (g.P.Reporter.has_taken c.send_each.new.report)
    c.send_mark.result.0 (g.P.Reporter.view c.send_mark.result.1) (g.P.Reporter.has_taken c.send_mark.result.1) side.0 side.1 c.in-Some.ensures.read c.send_mark.ensures

pub returns-in-None : goal.returns-in-None
returns-in-None g c =
    let side = c.in-None.ensures.side in
    left_early (g.F.Feed.remaining c.args.feed.now) (g.F.Feed.remaining c.send_each.new.feed) (g.F.Feed.fails c.args.feed.now) (g.F.Feed.fills c.args.feed.now) c.args.reading.piece c.args.reading.reads c.args.side.queue c.args.side.sender c.send_each.new.side (g.P.Reporter.has_taken c.send_each.new.report)
    c.leave.result.0 (g.P.Reporter.view c.leave.result.1) (g.P.Reporter.has_taken c.leave.result.1) side.0 side.1 c.in-None.ensures.begun c.leave.ensures
