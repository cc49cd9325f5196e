use Rattle.std.proofs.Common.{◌≡◌, ◌<◌, ◌&&◌, ◌||◌, Bool, length, ◌∙◌, ap, arith}
use Rattle.mon_notify.specs.Ends.{hears, is_still_owed}
use Rattle.mon_notify.specs.Escalations.{has_contact}
use Rattle.mon_notify.specs.Places.{is_named}
use Rattle.mon_notify.proofs.Told.{told_yes, told_no, told_ascending, told_within}
use Rattle.mon_notify.proofs.ends.still_owed.Goals as goal
use Rattle.mon_notify.proofs.ends.still_owed.Goals.{then-is_still_owed+in_ok-push, else-is_still_owed}

pub loop-contact-preserved : goal.loop-contact-preserved
loop-contact-preserved c =
    let p = is_still_owed c.args.inventory.now c.args.object c.args.owed.now in
    let contact = c.loop-contact.contact in
    let count = c.in_ok-was_owed.ensures.count in
    let low : contact < length c.args.inventory.now.contacts = omega (arith, c.loop-contact-test.true) in
    let within : contact < length c.in_ok-was_owed.was_owed.marks.items = omega (arith, c.loop-contact-test.true, count) in
    let is =
    c.is_still_owed.ensures
    ∙ ap (λ (b : Bool). b && (hears c.args.inventory.now c.args.object contact && is_named c.in_ok-all.all contact)) (c.add.ensures.named contact within ∙ ap (λ (b : Bool). b || has_contact contact c.args.owed.now) (c.in_ok-was_owed.ensures.none contact))
    ∙ ap (λ (b : Bool). has_contact contact c.args.owed.now && (hears c.args.inventory.now c.args.object contact && b)) (c.in_ok-all.ensures contact low) in
    elim c.if-is_still_owed.branch [
      | then-is_still_owed+in_ok-push w ↦ told_yes p contact c.loop-contact.still.items c.if-is_still_owed.still.items c.is_still_owed.result is w.if-is_still_owed.true c.loop-contact.invariant (let told = w.still-is in cc (w.in_ok-push.ensures.items))
      | else-is_still_owed w ↦ (let told = w.still-is in ap (λ v. v.items) told) ∙ told_no p contact c.loop-contact.still.items c.is_still_owed.result is w.if-is_still_owed.false c.loop-contact.invariant
    ]

pub returns-clause-ascending : goal.returns-clause-ascending
returns-clause-ascending c = rw c.loop-contact.invariant (told_ascending _ c.loop-contact.contact)

pub returns-clause-within : goal.returns-clause-within
returns-clause-within c =
    let all : c.loop-contact.contact ≡ length c.args.inventory.now.contacts = omega arith in
    rw (c.loop-contact.invariant, ← all) (told_within _ c.loop-contact.contact)
