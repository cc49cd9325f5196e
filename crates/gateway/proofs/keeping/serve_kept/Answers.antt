use Rattle.std.proofs.Common.{inr}
use Rattle.cmd_answer.specs.declared.stop.FilesStop.TheVariants.{Other}
use Rattle.gateway.proofs.keeping.serve_kept.Goals as goal

pub returns-in-Err-lock_directory : goal.returns-in-Err-lock_directory
returns-in-Err-lock_directory g c =
    let ended = c.stopped-in-Err-lock_directory.ensures in
    inr (Other c.in-Err-lock_directory.stop, g.E.Write.contents c.args.errors.now, ended.status, ended.line, ended.part)
