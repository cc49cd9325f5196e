use Rattle.cmd_dispatch.specs.Sends.{ahead}
use Rattle.cmd_dispatch.proofs.PlanLemmas.{told_in_plan, planned_still}
use Rattle.cmd_dispatch.proofs.SendLemmas.{read_told, read_begun}
use Rattle.cmd_dispatch.proofs.sender.Sending.read_all.Goals as goal

pub returns-clause-read : goal.returns-clause-read
returns-clause-read g c =
    read_told (g.F.Feed.remaining c.args.feed.now) (g.F.Feed.remaining c.read_text.new.feed) (g.F.Feed.fails c.args.feed.now) (g.F.Feed.fills c.args.feed.now) c.args.reading.piece c.args.reading.reads c.in_ok-how.how c.read_text.new.self.lines (ahead c.read_text.new.self) (ahead c.end.new.self) (g.P.Reporter.has_taken c.read_text.new.self.report) (g.P.Reporter.has_taken c.end.new.self.report)
    c.in_ok-how.ensures.read c.in_ok-end.ensures.passed

pub returns-clause-begun : goal.returns-clause-begun
returns-clause-begun g c =
    read_begun (g.F.Feed.remaining c.args.feed.now) (g.F.Feed.remaining c.read_text.new.feed) (g.F.Feed.fails c.args.feed.now) (g.F.Feed.fills c.args.feed.now) c.args.reading.piece c.args.reading.reads c.in_ok-how.how c.read_text.new.self.lines (ahead c.read_text.new.self) (ahead c.end.new.self) (g.P.Reporter.has_taken c.read_text.new.self.report) (g.P.Reporter.has_taken c.end.new.self.report)
    c.in_ok-how.ensures.read c.end.ensures.begun

pub returns-in_err-end-clause-begun : goal.returns-in_err-end-clause-begun
returns-in_err-end-clause-begun g c =
    read_begun (g.F.Feed.remaining c.args.feed.now) (g.F.Feed.remaining c.read_text.new.feed) (g.F.Feed.fails c.args.feed.now) (g.F.Feed.fills c.args.feed.now) c.args.reading.piece c.args.reading.reads c.in_ok-how.how c.read_text.new.self.lines (ahead c.read_text.new.self) (ahead c.end.new.self) (g.P.Reporter.has_taken c.read_text.new.self.report) (g.P.Reporter.has_taken c.end.new.self.report)
    c.in_ok-how.ensures.read c.end.ensures.begun

pub returns-in_err-how-clause-begun : goal.returns-in_err-how-clause-begun
returns-in_err-how-clause-begun g c = c.in_err-how.ensures.begun

pub end-requires-clause-planned : goal.end-requires-clause-planned
end-requires-clause-planned g c κs within =
    let read = c.in_ok-how.ensures.read in
    let side = c.read_text.ensures.side in (
      read.text,
      read.reading,
      told_in_plan c.text_that_grows.ensures (g.F.Feed.remaining c.args.feed.now) (g.F.Feed.remaining c.read_text.new.feed) (g.F.Feed.fails c.args.feed.now) (g.F.Feed.fills c.args.feed.now) c.args.reading.piece c.args.reading.reads c.in_ok-how.how read.text (ahead c.read_text.new.self)
          (planned_still (g.F.Feed.remaining c.args.feed.now) (ahead c.args.self.now) (ahead c.read_text.new.self) side.0 side.1 c.requires.planned) read.consumed read.ended,
    )
