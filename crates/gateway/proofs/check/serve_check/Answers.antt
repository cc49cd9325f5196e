use Rattle.std.proofs.Common.{◌≡◌, inl, inr, ap, sym, subst}
use Rattle.std.specs.Io.KnownBytes.{Keeps}
use Rattle.cmd_answer.specs.declared.stop.FilesStop.TheVariants.{Other}
use Rattle.cmd_answer.specs.declared.stop.Stop.TheVariants.{Memory, Output}
use Rattle.gateway.specs.Modes.{IsOfSystem}
use Rattle.gateway.proofs.FollowServes.{kept_then, kept_then_part}
use Rattle.gateway.proofs.ServeLemmas.{stops_said}
use Rattle.gateway.proofs.check.serve_check.Goals as goal

pub returns-in-Err-put : goal.returns-in-Err-put
returns-in-Err-put g c =
    let output = ap Other c.in-Err-put.ensures.failed in
    inl (inr (
      Other c.in-Err-put.stop,
      subst IsOfSystem (sym output) tt,
      record {
        status_is = c.stopped.ensures.status;
        nothing = λ no. absurd {A = Keeps (g.O.Write.contents c.args.output.now) (g.O.Write.contents c.put.new.output)} (no output);
        cut_off = λ is. (_, (0, c.in-Ok.ensures.counts), c.in-Err-put.ensures.part);
        line = c.stopped.ensures.line;
        part = c.stopped.ensures.part;
      },
    ))

pub returns-in-Err-stopped_in_words : goal.returns-in-Err-stopped_in_words
returns-in-Err-stopped_in_words g c =
    let kept = c.in-Err-stopped_in_words.ensures.nothing in
    inl (inr (
      Other Memory,
      tt,
      stops_said _ _ (Other Memory) c.stopped-in-Err-stopped_in_words.result _ _ _ (λ is. (let clash : Other Memory ≡ Other Output = is in cc)) c.stopped-in-Err-stopped_in_words.ensures.status
          (λ told. kept_then _ _ _ _ kept (c.stopped-in-Err-stopped_in_words.ensures.line told)) (λ told. kept_then_part _ _ _ _ kept (c.stopped-in-Err-stopped_in_words.ensures.part told)),
    ))
