use Rattle.cmd_dispatch.proofs.SendLemmas.{left_ahead}
use Rattle.cmd_dispatch.proofs.sender.Sending.leave.Goals as goal

pub returns : goal.returns
returns g c = left_ahead c.args.self.side c.args.self.gathered.items (g.P.Reporter.has_taken c.args.self.report) c.leave.result.0 (g.P.Reporter.view c.leave.result.1) (g.P.Reporter.has_taken c.leave.result.1) c.leave.ensures
