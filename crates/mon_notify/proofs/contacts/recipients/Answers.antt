use Rattle.std.proofs.Common.{◌≡◌, ◌&&◌, Bool, length, slice_get, ◌∙◌, ap, arith}
use Rattle.mon_notify.specs.Objects.{is_service}
use Rattle.mon_notify.specs.Recipients.{takes_at, is_told, is_told_by}
use Rattle.mon_notify.proofs.Told.{told_yes, told_no, told_ascending, told_within}
use Rattle.mon_notify.proofs.contacts.recipients.Goals as goal
use Rattle.mon_notify.proofs.contacts.recipients.Goals.{then-is_told+in_ok-push, else-is_told}

pub loop-contact-preserved : goal.loop-contact-preserved
loop-contact-preserved c =
    let p = is_told c.args.inventory.now c.args.switches.now c.args.object c.args.number c.args.letter c.args.escalate in
    let switch = slice_get c.args.switches.now c.loop-contact.contact in
    let takes = takes_at (is_service (slice_get c.args.inventory.now.objects c.args.object)) c.args.letter (slice_get c.args.inventory.now.contacts c.loop-contact.contact) switch in
    let is =
    c.is_told.ensures
    ∙ ap (λ (b : Bool). takes && b) (c.in_ok-named.ensures c.loop-contact.contact (omega (arith, c.loop-contact-test.true)))
    ∙ ap (λ (b : Bool). is_told_by c.args.inventory.now c.args.switches.now c.args.object c.args.number c.args.letter b c.loop-contact.contact) c.escalates-escalated.ensures in
    elim c.if-is_told.branch [
      | then-is_told+in_ok-push w ↦ told_yes p c.loop-contact.contact c.loop-contact.told.items c.if-is_told.told.items c.is_told.result is w.if-is_told.true c.loop-contact.invariant (let told = w.told-is in cc (w.in_ok-push.ensures.items))
      | else-is_told w ↦ (let told = w.told-is in ap (λ v. v.items) told) ∙ told_no p c.loop-contact.contact c.loop-contact.told.items c.is_told.result is w.if-is_told.false c.loop-contact.invariant
    ]

pub returns-clause-ascending : goal.returns-clause-ascending
returns-clause-ascending c = rw c.loop-contact.invariant (told_ascending _ c.loop-contact.contact)

pub returns-clause-within : goal.returns-clause-within
returns-clause-within c =
    let all : c.loop-contact.contact ≡ length c.args.inventory.now.contacts = omega arith in
    rw (c.loop-contact.invariant, ← all) (told_within _ c.loop-contact.contact)
