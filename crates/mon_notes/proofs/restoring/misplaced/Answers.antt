use Rattle.std.proofs.Common.{List, ap, sym, subst, arith, inl, inr}
use Rattle.std.proofs.lemmas.List.{at_drop_more}
use Rattle.mon_notes.specs.declared.comment.Comment.{Comment}
use Rattle.mon_notes.specs.Comments.{AreWithin, ComesAfter}
use Rattle.mon_notes.proofs.RestoreLemmas.{list_within, within_ascending, within_given, within_at, within_end, after_there, there_after, id_there, each_more, all_after}
use Rattle.mon_notes.proofs.restoring.misplaced.Goals as goal

pub returns-then-id-low-clause-all : goal.returns-then-id-low-clause-all
returns-then-id-low-clause-all c = λ w.
    (let at = within_at c.args.last_id c.loop-place.low c.loop-place.place c.args.comments.now c.index-comments-place.result c.loop-place-test.true (c.loop-place.invariant.on (list_within c.args.last_id 0 c.args.comments.now w.ascending w.given)) in
    let is = ap (λ (x : Comment). x.id) c.index-comments-place.is in
    elim c.then-id-low.either [
      | inl h ↦ absurd (omega (arith, at.0, is, h))
      | inr h ↦ absurd (omega (arith, at.1, is, h.1))
    ])

pub returns-then-id-low-clause-at : goal.returns-then-id-low-clause-at
returns-then-id-low-clause-at c = λ w.
    (let after = after_there c.args.last_id c.args.comments.now c.loop-place.place c.index-comments-place.result c.loop-place-test.true w in
    let low = c.loop-place.invariant.low in
    elim c.then-id-low.either [
      | inl h ↦ absurd (omega (arith, after.0, low, h))
      | inr h ↦ absurd (omega (arith, after.1, h.1))
    ])

pub loop-place-preserved : goal.loop-place-preserved
loop-place-preserved c =
    let cs = c.args.comments.now in
    let i = c.loop-place.invariant in
    let within = c.loop-place-test.true in
    let step = at_drop_more (λ (zs : List Comment). zs) cs c.loop-place.place c.index-comments-place.result within in
    let above = c.if-id-low.false in
    let given = c.if-id-last_id.false in
    let low = i.low in
    record {
      on = λ w. (subst (AreWithin c.loop-place.low c.args.last_id) step (i.on w)).2;
      back = λ w. i.back (subst (AreWithin c.loop-place.low c.args.last_id) (sym step) (above, given, w));
      low = id_there cs c.loop-place.place c.index-comments-place.result within;
      earlier = each_more (ComesAfter c.args.last_id cs) c.loop-place.place (there_after c.args.last_id cs c.loop-place.place c.index-comments-place.result within (omega (arith, low, above), given)) i.earlier;
    }

pub returns-clause-earlier : goal.returns-clause-earlier
returns-clause-earlier c = λ k _. all_after c.args.last_id c.args.comments.now c.loop-place.place c.loop-place-test.false c.loop-place.invariant.earlier k

pub returns-clause-all : goal.returns-clause-all
returns-clause-all c =
    let whole = c.loop-place.invariant.back (within_end c.args.last_id c.loop-place.low c.loop-place.place c.args.comments.now c.loop-place-test.false) in
    record { ascending = within_ascending c.args.last_id 0 c.args.comments.now whole; given = within_given c.args.last_id 0 c.args.comments.now whole }
