use Rattle.std.proofs.Common.{inl, inr, ap}
use Rattle.std.specs.Io.KnownBytes.{Keeps}
use Rattle.cmd_answer.specs.declared.stop.FilesStop.TheVariants.{Other}
use Rattle.gateway.proofs.program.serve_files.Goals as goal

pub returns-in-Err-put : goal.returns-in-Err-put
returns-in-Err-put g c =
    let output = ap Other c.in-Err-put.ensures.failed in
    inr (
      Other c.in-Err-put.stop,
      inl output,
      record {
        status_is = c.stopped.ensures.status;
        nothing = λ no. absurd {A = Keeps (g.O.Write.contents c.args.output.now) (g.O.Write.contents c.put.new.output)} (no output);
        cut_off = λ is. (_, (_, c.in-Ok.ensures.answers), c.in-Err-put.ensures.part);
        line = c.stopped.ensures.line;
        part = c.stopped.ensures.part;
      },
    )
