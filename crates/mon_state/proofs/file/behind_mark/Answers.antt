use Rattle.std.proofs.Common.{refl, sym, ◌∙◌}
use Rattle.mon_state.proofs.FileLemmas.{mark_found, mark_passed, mark_none}
use Rattle.mon_state.proofs.file.behind_mark.Goals as goal

pub returns-then-eq : goal.returns-then-eq
returns-then-eq c = sym (mark_found c.loop-line.rest.now c.in-Some.line.now c.in-Some.behind.now c.in-Some.ensures.0 c.in-Some.ensures.1 (sym c.eq.ensures ∙ c.if-eq.true)) ∙ c.loop-line.invariant

pub loop-line-preserved : goal.loop-line-preserved
loop-line-preserved c = sym (mark_passed c.loop-line.rest.now c.in-Some.line.now c.in-Some.behind.now c.in-Some.ensures.0 c.in-Some.ensures.1 (sym c.eq.ensures ∙ c.if-eq.false)) ∙ c.loop-line.invariant

pub returns : goal.returns
returns c = sym (mark_none c.loop-line.rest.now c.loop-line.rest.now c.in_default.ensures refl) ∙ c.loop-line.invariant
