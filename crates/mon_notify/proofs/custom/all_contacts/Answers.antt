use Rattle.std.proofs.Common.{◌<◌, ◌||◌, true, length, slice_get, arith, ap, sym, ◌∙◌, Option}
use Rattle.std.specs.List.{filter}
use Rattle.mon_inventory.specs.declared.records.ObjectSpec.{ObjectSpec}
use Rattle.mon_notify.specs.Objects.{own_contacts}
use Rattle.mon_notify.specs.Escalations.{has_contact, contacts_of}
use Rattle.mon_notify.specs.Custom.{all_escalations}
use Rattle.mon_notify.proofs.Matching.{contact_broadcast}
use Rattle.mon_notify.proofs.custom.all_contacts.Goals as goal

pub returns : goal.returns
returns c = λ contact l.
    let k = c.args.inventory.now in
    let here : contact < length c.in_ok-named.named.marks.items = omega (arith, c.in_ok-named.ensures.count, c.contact_count.ensures.count) in
    let there : contact < length c.add.new.self.marks.items = omega (arith, c.add.ensures.count) in
    let all = has_contact contact (contacts_of (filter (λ _. true) (all_escalations k c.args.object))) in
    let own =
    c.add.ensures.named contact here
    ∙ ap (λ b. b || has_contact contact c.as_slice.result.now) (c.in_ok-named.ensures.none contact)
    ∙ ap (has_contact contact) c.as_slice.ensures
    ∙ sym (ap (λ (o : Option ObjectSpec). has_contact contact (own_contacts o)) c.object.ensures.value) in
    c.name_all.ensures.named contact there
    ∙ ap (λ b. b || all) own
    ∙ contact_broadcast k c.args.object contact (own_contacts (slice_get k.objects c.args.object))
