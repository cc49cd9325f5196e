use Rattle.std.proofs.Common.{is_none, ap, sym}
use Rattle.std.specs.List.{list_any}
use Rattle.std.specs.Option.{option_copied}
use Rattle.mon_inventory.specs.Lookups.{contact_of}
use Rattle.mon_inventory.proofs.Cuts.{left_less, parts_next, items_first}
use Rattle.mon_inventory.proofs.index.Index.has_unknown_contact.Goals as goal

pub items-init : goal.items-init
items-init c = ap (list_any (λ name. is_none (contact_of c.args.self.now.contacts.items name))) (sym (items_first _ c.args.text.now c.first_item-rest.ensures))

pub returns-then-is_none : goal.returns-then-is_none
returns-then-is_none c =
    let next = parts_next 44 _ _ c.in-Some.items.now c.cut.result.0.now (ap option_copied c.in-Some.is) c.cut.ensures.front c.cut.ensures.back in
    rw (next, ← c.contact_of.ensures, c.if-is_none.ensures) at c.items.invariant

pub items-smaller : goal.items-smaller
items-smaller c = left_less _ _ c.in-Some.items.now (ap option_copied c.in-Some.is) c.cut.ensures.back

pub items-preserved : goal.items-preserved
items-preserved c =
    let next = parts_next 44 _ _ c.in-Some.items.now c.cut.result.0.now (ap option_copied c.in-Some.is) c.cut.ensures.front c.cut.ensures.back in
    rw (next, ← c.contact_of.ensures, c.if-is_none.ensures) at c.items.invariant
