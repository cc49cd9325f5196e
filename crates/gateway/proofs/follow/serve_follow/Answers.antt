use Rattle.cmd_answer.specs.declared.stop.FilesStop.TheVariants.{Other}
use Rattle.cmd_answer.specs.declared.stop.Stop.TheVariants.{Memory}
use Rattle.gateway.proofs.FollowServes.{stops_opening, not_followed}
use Rattle.gateway.proofs.follow.serve_follow.Goals as goal

pub returns-in_default : goal.returns-in_default
returns-in_default g c =
    not_followed g.R.File.Read.remaining c.args.call.now.asked.now (Other Memory) c.stopped-in_default.result _ _ _
    (stops_opening g.R.File.Read.remaining c.args.call.now.asked.now c.in-Ok.inventory (Other Memory) c.in-Ok.ensures.count.0 c.in-Ok.ensures.count.1 c.in-Ok.ensures.read tt)
    c.stopped-in_default.ensures.status c.stopped-in_default.ensures.line c.stopped-in_default.ensures.part

pub returns : goal.returns
returns g c = rw c.in-Ok-run_of.ensures.call at c.serve_run.ensures
