use Rattle.mon_carry.specs.Carried.{contact_carried}
use Rattle.mon_carry.proofs.ListLemmas.{mapped_more}
use Rattle.mon_carry.proofs.contacts.carry_contacts.Goals as goal

pub loop-contact-preserved : goal.loop-contact-preserved
loop-contact-preserved c =
    mapped_more (contact_carried c.args.old.now.contacts c.args.switches.now) c.contacts-contact-items.result.now c.loop-contact.contact-index c.contact-item.result _ _ c.contact_carried.result c.loop-contact-test.true c.contact-item.is c.loop-contact.invariant c.contact_carried.ensures c.in_ok-push.ensures.items
