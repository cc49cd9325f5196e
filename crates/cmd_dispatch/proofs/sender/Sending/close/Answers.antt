use Rattle.std.proofs.Common.{inr}
use Rattle.cmd_dispatch.specs.Sends.{ahead}
use Rattle.cmd_dispatch.proofs.SendLemmas.{sent_ahead, closed_same, left_same}
use Rattle.cmd_dispatch.proofs.sender.Sending.close.Goals as goal

pub returns-in-Ok : goal.returns-in-Ok
returns-in-Ok g c =
    let same = c.send_gathered.ensures.same in
    closed_same (ahead c.args.self) c.send_gathered.new.self.side (g.P.Reporter.has_taken c.args.self.report) (g.P.Reporter.has_taken c.send_gathered.new.self.report) c.args.ending c.send_mark.result.0 (g.P.Reporter.view c.send_mark.result.1) (g.P.Reporter.has_taken c.send_mark.result.1)
    (sent_ahead g.P.Reporter.has_taken c.args.self c.send_gathered.new.self same c.in-Ok.ensures.sent) same.2 c.send_mark.ensures

pub returns-in-Err : goal.returns-in-Err
returns-in-Err g c =
    let same = c.send_gathered.ensures.same in
    inr (left_same (ahead c.args.self) (ahead c.send_gathered.new.self) (g.P.Reporter.has_taken c.args.self.report) (g.P.Reporter.has_taken c.send_gathered.new.self.report) c.leave.result.0 (g.P.Reporter.view c.leave.result.1) (g.P.Reporter.has_taken c.leave.result.1) same.0 same.2 c.leave.ensures)
