use Rattle.std.proofs.Common.{inr}
use Rattle.gateway.proofs.keeping.stop.Goals as goal

pub returns : goal.returns
returns g c = inr (c.args.why, g.E.Write.contents c.args.errors.now, c.stopped.ensures.status, c.stopped.ensures.line, c.stopped.ensures.part)
