use Rattle.std.proofs.Common.{not, ap, sym}
use Rattle.std.specs.List.{list_any}
use Rattle.std.specs.Option.{option_copied}
use Rattle.mon_inventory.specs.Seen.{options_of}
use Rattle.mon_inventory.specs.Line.{has_item}
use Rattle.mon_inventory.proofs.Cuts.{left_less, parts_next, items_first}
use Rattle.mon_inventory.proofs.letters.has_other_item.Goals as goal

pub items-init : goal.items-init
items-init c = ap (list_any (λ item. not (has_item item (options_of c.args.allowed)))) (sym (items_first _ c.args.text.now c.first_item-rest.ensures))

pub returns-then-not-has : goal.returns-then-not-has
returns-then-not-has c =
    let next = parts_next 44 _ _ c.in-Some.items.now c.cut.result.0.now (ap option_copied c.in-Some.is) c.cut.ensures.front c.cut.ensures.back in
    rw (next, ← c.has.ensures, c.if-not-has.true) at c.items.invariant

pub items-smaller : goal.items-smaller
items-smaller c = left_less _ _ c.in-Some.items.now (ap option_copied c.in-Some.is) c.cut.ensures.back

pub items-preserved : goal.items-preserved
items-preserved c =
    let next = parts_next 44 _ _ c.in-Some.items.now c.cut.result.0.now (ap option_copied c.in-Some.is) c.cut.ensures.front c.cut.ensures.back in
    rw (next, ← c.has.ensures, c.if-not-has.false) at c.items.invariant
