use Rattle.std.proofs.Common.{rules, slice_get, ap, ◌∙◌}
use Rattle.std.specs.List.{list_any}
use borrow.Author.Tests.{tests}
use Rattle.std.proofs.lemmas.Iterator.{YieldsList-from_slice}
use Rattle.std.proofs.lemmas.Iterator.Search.{any_from_yields_List}
use Rattle.mon_notify.specs.Places.{passes}
use Rattle.mon_notify.specs.Escalations.{is_in_force}
use Rattle.mon_notify.proofs.Matching.{any_at, any_matching}
use Rattle.mon_notify.proofs.escalations.is_escalated.Goals as goal

pub returns : goal.returns
returns c =
    let test = is_in_force c.args.number c.args.letter in
    any_from_yields_List (λ n. passes test (slice_get c.args.inventory.now.escalations n)) _ _ _ c.any.ensures.ran (YieldsList-from_slice c.escalations_of.result.now cc) (λ x b q k. search (rules, tests))
    ∙ any_at test c.args.inventory.now.escalations c.escalations_of.result.now
    ∙ ap (list_any test) c.escalations_of.ensures.in_order
    ∙ any_matching c.args.inventory.now c.args.object c.args.number c.args.letter
