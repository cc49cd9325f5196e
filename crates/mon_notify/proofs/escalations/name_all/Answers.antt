use Rattle.std.proofs.Common.{◌||◌, List, slice_get, ap, ◌∙◌}
use Rattle.std.specs.List.{list_any}
use Rattle.std.proofs.lemmas.List.{take_all}
use Rattle.mon_inventory.specs.declared.records.Escalation.{Escalation}
use Rattle.mon_notify.specs.Custom.{all_escalations}
use Rattle.mon_notify.specs.Places.{selects, is_named, names, passes}
use Rattle.mon_notify.proofs.Matching.{any_at, contact_kept}
use Rattle.mon_notify.proofs.escalations.name_all.Goals as goal

pub returns-clause-named : goal.returns-clause-named
returns-clause-named c = λ contact l.
    let k = c.args.inventory.now in
    let asked = c.args.asked.now in
    let places = c.escalations_of-places.result.now in
    let any = λ (es : List Escalation). list_any (λ n. passes (names asked contact) (slice_get es n)) places in
    c.loop-place.invariant.named contact l
    ∙ ap (λ b. is_named c.args.named.now contact || b)
    (ap (list_any (λ n. passes (names asked contact) (slice_get c.escalations-escalations.result.now n))) (take_all c.loop-place.place-index places c.loop-place-test.false)
    ∙ ap any c.escalations-escalations.ensures.value
    ∙ any_at (names asked contact) k.escalations places
    ∙ ap (list_any (names asked contact)) c.escalations_of-places.ensures.in_order
    ∙ contact_kept (selects asked) contact (all_escalations k c.args.object))
