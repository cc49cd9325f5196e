use Rattle.std.proofs.Common.{ℕ, List, Bor, get_or, map, sym, ◌∙◌}
use Rattle.std.proofs.lemmas.List.Sums.{count_by_more_no}
use Rattle.cmd_recovery.specs.Assigns.{has_word}
use Rattle.cmd_recovery.proofs.AssignLemmas.{given_word, same_bytes, other_word}
use Rattle.cmd_recovery.proofs.feeds.roles.first_with.Goals as goal

pub returns-then-eq : goal.returns-then-eq
returns-then-eq c = (
  c.loop-at-test.true,
  given_word c.args.words.now (get_or c.args.free.now c.loop-at.at 0) _ c.as_bytes.result.now (c.requires c.loop-at.at 0 c.loop-at-test.true) c.as_bytes.ensures.value ∙ same_bytes c.as_bytes.result.now c.args.wanted.now (sym c.eq.ensures ∙ c.if-eq.true),
)

pub loop-at-preserved : goal.loop-at-preserved
loop-at-preserved c =
    let words = map (λ (w : Bor (List ℕ)). w.now) c.args.words.now in
    let at = given_word c.args.words.now (get_or c.args.free.now c.loop-at.at 0) _ c.as_bytes.result.now (c.requires c.loop-at.at 0 c.loop-at-test.true) c.as_bytes.ensures.value in
    count_by_more_no (has_word words c.args.wanted.now) c.args.free.now c.loop-at.at 0 c.loop-at-test.true (other_word words c.args.wanted.now (get_or c.args.free.now c.loop-at.at 0) c.as_bytes.result.now at (sym c.eq.ensures ∙ c.if-eq.false)) ∙ c.loop-at.invariant
