use Rattle.std.proofs.Common.{ap, sym, ◌∙◌, [], rules}
use Rattle.std.specs.Option.{option_copied}
use Rattle.mon_inventory.specs.Texts.{parts_left}
use Rattle.mon_inventory.proofs.Contacts.{gathered, gathered_first, gathered_known, gathered_unknown}
use Rattle.mon_inventory.proofs.Cuts.{left_less, parts_next, items_first}
use Rattle.mon_inventory.proofs.index.Index.collect_contacts.Goals as goal

pub names-init : goal.names-init
names-init c =
    rw c.requires.empty (ap (gathered c.args.self.now.contacts.items []) (sym (items_first _ c.args.text.now c.first_item-rest.ensures)) ∙ gathered_first c.args.self.now.contacts.items _)

pub names-smaller : goal.names-smaller
names-smaller c = left_less _ _ c.in-Some.names.now (ap option_copied c.in-Some.is) c.cut.ensures.back

pub names-preserved-in_ok-insert : goal.names-preserved-in_ok-insert
names-preserved-in_ok-insert c =
    let cs = c.args.self.now.contacts.items in
    let next = parts_next 44 _ _ c.in-Some.names.now c.cut.result.0.now (ap option_copied c.in-Some.is) c.cut.ensures.front c.cut.ensures.back in
    let known = gathered_known cs c.names.contacts.keys c.cut.result.0.now _ _ (sym c.contact_of.ensures ∙ c.in-Some-contact_of.is) in
    ap (λ keys. gathered cs keys (parts_left 44 (option_copied c.cut.result.1))) c.in_ok-insert.ensures.keys ∙ sym known ∙ sym (ap (gathered cs c.names.contacts.keys) next) ∙ c.names.invariant

pub names-preserved : goal.names-preserved
names-preserved c =
    let cs = c.args.self.now.contacts.items in
    let next = parts_next 44 _ _ c.in-Some.names.now c.cut.result.0.now (ap option_copied c.in-Some.is) c.cut.ensures.front c.cut.ensures.back in
    let unknown = gathered_unknown cs c.names.contacts.keys c.cut.result.0.now _ (sym c.contact_of.ensures ∙ search rules) in
    sym unknown ∙ sym (ap (gathered cs c.names.contacts.keys) next) ∙ c.names.invariant
