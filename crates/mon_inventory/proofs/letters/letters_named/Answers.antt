use Rattle.std.proofs.Common.{ap, sym, ◌∙◌}
use Rattle.std.specs.Option.{option_copied}
use Rattle.mon_inventory.specs.Texts.{parts_left}
use Rattle.mon_inventory.specs.Seen.{named_too}
use Rattle.mon_inventory.proofs.Cuts.{left_less, parts_next, items_first}
use Rattle.mon_inventory.proofs.Options.{no_letters, item_named}
use Rattle.mon_inventory.proofs.letters.letters_named.Goals as goal

pub items-init : goal.items-init
items-init c = ap (named_too no_letters) (sym (items_first _ c.args.text.now c.first_item-rest.ensures))

pub items-smaller : goal.items-smaller
items-smaller c = left_less _ _ c.in-Some.items.now (ap option_copied c.in-Some.is) c.cut.ensures.back

pub items-preserved : goal.items-preserved
items-preserved c =
    let next = parts_next 44 _ _ c.in-Some.items.now c.cut.result.0.now (ap option_copied c.in-Some.is) c.cut.ensures.front c.cut.ensures.back in
    ap (λ l. named_too l (parts_left 44 (option_copied c.cut.result.1))) c.with_item-letters.ensures ∙ item_named c.items.letters c.cut.result.0.now (parts_left 44 (option_copied c.cut.result.1)) ∙ sym (ap (named_too c.items.letters) next) ∙ c.items.invariant
