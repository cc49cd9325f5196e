use Rattle.std.proofs.Common.{◌≡◌, ◌&&◌, ◌||◌, Bool, length, slice_get, ◌∙◌, ap, arith}
use Rattle.mon_notify.specs.Objects.{is_service}
use Rattle.mon_notify.specs.Custom.{is_forced, is_on_at, is_custom_told}
use Rattle.mon_notify.proofs.Told.{told_yes, told_no, told_ascending, told_within}
use Rattle.mon_notify.proofs.custom.custom_recipients.Goals as goal
use Rattle.mon_notify.proofs.custom.custom_recipients.Goals.{then-is_told+in_ok-push, else-is_told}

pub loop-contact-preserved : goal.loop-contact-preserved
loop-contact-preserved c =
    let p = is_custom_told c.args.inventory.now c.args.switches.now c.args.object c.args.number c.args.code c.args.options in
    let is_on = is_forced c.args.options || is_on_at (is_service (slice_get c.args.inventory.now.objects c.args.object)) (slice_get c.args.switches.now c.loop-contact.contact) in
    let is = c.is_told.ensures ∙ ap (λ (b : Bool). is_on && b) (c.in_ok-named.ensures c.loop-contact.contact (omega (arith, c.loop-contact-test.true))) in
    elim c.if-is_told.branch [
      | then-is_told+in_ok-push w ↦ told_yes p c.loop-contact.contact c.loop-contact.told.items c.if-is_told.told.items c.is_told.result is w.if-is_told.true c.loop-contact.invariant (let told = w.told-is in cc (w.in_ok-push.ensures.items))
      | else-is_told w ↦ (let told = w.told-is in ap (λ v. v.items) told) ∙ told_no p c.loop-contact.contact c.loop-contact.told.items c.is_told.result is w.if-is_told.false c.loop-contact.invariant
    ]

pub returns-clause-ascending : goal.returns-clause-ascending
returns-clause-ascending c = rw c.loop-contact.invariant (told_ascending _ c.loop-contact.contact)

pub returns-clause-within : goal.returns-clause-within
returns-clause-within c =
    let all : c.loop-contact.contact ≡ length c.args.inventory.now.contacts = omega arith in
    rw (c.loop-contact.invariant, ← all) (told_within _ c.loop-contact.contact)
