use Rattle.std.proofs.Common.{ℕ, List, Option, None, slice_get, get_or, ap, sym, ◌∙◌}
use Rattle.std.specs.List.{fold}
use Rattle.std.proofs.lemmas.List.{take_all}
use Rattle.std.proofs.lemmas.List.Sums.{fold_more}
use Rattle.mon_inventory.specs.declared.records.Escalation.{Escalation}
use Rattle.mon_notify.specs.Places.{lesser_at}
use Rattle.mon_notify.proofs.Matching.{least_matching}
use Rattle.mon_notify.proofs.escalations.least_interval.Goals as goal

pub loop-place-preserved : goal.loop-place-preserved
loop-place-preserved c =
    let places = c.escalations_of-places.result.now in
    let index = c.loop-place.place-index in
    let more = λ (least : Option ℕ) (n : ℕ). lesser_at c.args.number c.args.letter least (slice_get c.escalations-escalations.result.now n) in
    c.lesser_at-least.ensures ∙ ap (λ (least : Option ℕ). more least (get_or places index 0)) c.loop-place.invariant ∙ sym (fold_more more None places index 0 c.loop-place-test.true)

pub returns : goal.returns
returns c =
    let places = c.escalations_of-places.result.now in
    let least_of_all = λ (es : List Escalation) (ns : List ℕ). fold (λ least n. lesser_at c.args.number c.args.letter least (slice_get es n)) None ns in
    c.loop-place.invariant
    ∙ ap (least_of_all c.escalations-escalations.result.now) (take_all c.loop-place.place-index places c.loop-place-test.false)
    ∙ ap (λ (es : List Escalation). least_of_all es places) c.escalations-escalations.ensures.value
    ∙ least_matching c.args.inventory.now c.args.object c.args.number c.args.letter places c.escalations_of-places.ensures.in_order
