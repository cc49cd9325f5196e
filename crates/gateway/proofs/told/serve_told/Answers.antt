use Rattle.std.proofs.Common.{inr}
use Rattle.cmd_answer.specs.declared.stop.FilesStop.TheVariants.{Other}
use Rattle.gateway.proofs.told.serve_told.Goals as goal

pub returns-in-Err : goal.returns-in-Err
returns-in-Err g c = inr (Other c.in-Err.stop, c.stopped.ensures.status, c.stopped.ensures.line, c.stopped.ensures.part)
