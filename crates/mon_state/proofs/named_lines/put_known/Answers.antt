use Rattle.std.proofs.Common.{◌∷◌, [], List, ℕ, ap, ◌∙◌, ◌++◌}
use Rattle.mon_engine.specs.Report.{fields_text}
use Rattle.mon_state.specs.State.{status_fields, notice_fields, moment_fields}
use Rattle.mon_state.proofs.TextLemmas.{fields_put}
use Rattle.mon_state.proofs.named_lines.put_known.Goals as goal

pub returns-clause-ok : goal.returns-clause-ok
returns-clause-ok c =
    let o = c.args.object.now in
    fields_put c.args.out.now.items c.put_status.new.out.items c.put_notified.new.out.items c.put_moments.new.out.items c.put_fields.new.out.items c.push.new.self.items
    (status_fields o) (notice_fields o) (moment_fields c.args.version o.moments) (o.output ∷ [])
    c.in_ok-put_status.ensures.ok c.in_ok-put_notified.ensures.ok c.in_ok-put_moments.ensures.ok
    (c.in_ok-put_fields.ensures.ok ∙ ap (λ (t : List ℕ). c.put_moments.new.out.items ++ fields_text (t ∷ [])) c.as_bytes.ensures) c.in_ok-push.ensures.items
