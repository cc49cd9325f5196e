use Rattle.std.proofs.Common.{◌<◌, ◌||◌, length, arith, ap, sym, ◌∙◌, Option}
use Rattle.std.specs.List.{filter}
use Rattle.mon_inventory.specs.declared.records.ObjectSpec.{ObjectSpec}
use Rattle.mon_notify.specs.Objects.{own_contacts}
use Rattle.mon_notify.specs.Escalations.{is_in_force, has_contact, contacts_of}
use Rattle.mon_notify.specs.Custom.{all_escalations}
use Rattle.mon_notify.proofs.Matching.{contact_matching}
use Rattle.mon_notify.proofs.contacts.candidates.Goals as goal
use Rattle.mon_notify.proofs.contacts.candidates.Goals.{then-escalated, else-escalated}

pub returns : goal.returns
returns c = λ contact l.
    let k = c.args.inventory.now in
    let here : contact < length c.in_ok-named.named.marks.items = omega (arith, c.in_ok-named.ensures.count, c.contact_count.ensures.count) in
    let before = c.in_ok-named.ensures.none contact in
    elim c.if-escalated.branch [
      | then-escalated w ↦ rw (w.named-is, w.if-escalated.true)
          (w.name_all.ensures.named contact here
          ∙ ap (λ b. b || has_contact contact (contacts_of (filter (is_in_force c.args.topic.number c.args.topic.letter) (all_escalations k c.args.topic.object)))) before
          ∙ contact_matching k c.args.topic.object c.args.topic.number c.args.topic.letter contact)
      | else-escalated w ↦ rw (w.named-is, w.if-escalated.false)
          (w.add.ensures.named contact here
          ∙ ap (λ b. b || has_contact contact w.as_slice.result.now) before
          ∙ ap (has_contact contact) w.as_slice.ensures
          ∙ sym (ap (λ (o : Option ObjectSpec). has_contact contact (own_contacts o)) w.object.ensures.value))
    ]
