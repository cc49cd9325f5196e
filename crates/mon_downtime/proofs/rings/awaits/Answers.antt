use Rattle.std.proofs.Common.{◌≡◌, ◌&&◌, not, refl, sym, ◌∙◌}
use Rattle.std.proofs.lemmas.Bool.{and_parts}
use Rattle.mon_downtime.specs.Problem.{is_pending}
use Rattle.mon_downtime.proofs.FateLemmas.{not_pending}
use Rattle.mon_downtime.proofs.rings.awaits.Goals as goal
use Rattle.mon_downtime.proofs.rings.awaits.Goals.{in-Pending, in_default, then-matches, else-matches}

pub returns-then-not-d : goal.returns-then-not-d
returns-then-not-d c =
    let d = c.args.d.now in
    let pending : c.match-matches.matches ≡ is_pending d.fate = elim c.match-matches.branch [
      | in-Pending w ↦ rw (w.matches-is, w.in-Pending.is) refl
      | in_default w ↦ rw (w.matches-is, not_pending d.fate w.in_default.not-Pending) refl
    ] in
    let both : c.if-matches.value ≡ (is_pending d.fate && not d.plan.times.fixed) = elim c.if-matches.branch [
      | then-matches w ↦ rw (w.value-is, ← pending, w.if-matches.true) refl
      | else-matches w ↦ rw (w.value-is, ← pending, w.if-matches.false) refl
    ] in
    let is = and_parts (is_pending d.fate) (not d.plan.times.fixed) (sym both ∙ c.if-not-d.true) in
    rw (is.0, is.1) refl
