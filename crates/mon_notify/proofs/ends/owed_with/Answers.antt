use Rattle.std.proofs.Common.{◌≡◌, ◌<◌, ◌&&◌, ◌||◌, Bool, length, ◌∙◌, ap, arith}
use Rattle.mon_notify.specs.Ends.{hears, is_owed_with}
use Rattle.mon_notify.specs.Escalations.{has_contact}
use Rattle.mon_notify.specs.Places.{is_named}
use Rattle.mon_notify.proofs.Told.{told_yes, told_no, told_ascending, told_within}
use Rattle.mon_notify.proofs.ends.owed_with.Goals as goal
use Rattle.mon_notify.proofs.ends.owed_with.Goals.{then-is_owed_with+in_ok-push, else-is_owed_with}

pub loop-contact-preserved : goal.loop-contact-preserved
loop-contact-preserved c =
    let p = is_owed_with c.args.inventory.now c.args.object c.args.owed.now c.args.notified.now in
    let contact = c.loop-contact.contact in
    let count = c.in_ok-known.ensures.count in
    let within : contact < length c.in_ok-known.known.marks.items = omega (arith, c.loop-contact-test.true, count) in
    let count2 = c.in_ok-new.ensures.count in
    let within2 : contact < length c.in_ok-new.new.marks.items = omega (arith, c.loop-contact-test.true, count2) in
    let is =
    c.is_owed_with.ensures
    ∙ ap (λ (b : Bool). b || (is_named c.add-2.new.self contact && hears c.args.inventory.now c.args.object contact)) (c.add.ensures.named contact within ∙ ap (λ (b : Bool). b || has_contact contact c.args.owed.now) (c.in_ok-known.ensures.none contact))
    ∙ ap (λ (b : Bool). has_contact contact c.args.owed.now || (b && hears c.args.inventory.now c.args.object contact)) (c.add-2.ensures.named contact within2 ∙ ap (λ (b : Bool). b || has_contact contact c.args.notified.now) (c.in_ok-new.ensures.none contact)) in
    elim c.if-is_owed_with.branch [
      | then-is_owed_with+in_ok-push w ↦ told_yes p contact c.loop-contact.all.items c.if-is_owed_with.all.items c.is_owed_with.result is w.if-is_owed_with.true c.loop-contact.invariant (let told = w.all-is in cc (w.in_ok-push.ensures.items))
      | else-is_owed_with w ↦ (let told = w.all-is in ap (λ v. v.items) told) ∙ told_no p contact c.loop-contact.all.items c.is_owed_with.result is w.if-is_owed_with.false c.loop-contact.invariant
    ]

pub returns-clause-ascending : goal.returns-clause-ascending
returns-clause-ascending c = rw c.loop-contact.invariant (told_ascending _ c.loop-contact.contact)

pub returns-clause-within : goal.returns-clause-within
returns-clause-within c =
    let all : c.loop-contact.contact ≡ length c.args.inventory.now.contacts = omega arith in
    rw (c.loop-contact.invariant, ← all) (told_within _ c.loop-contact.contact)
