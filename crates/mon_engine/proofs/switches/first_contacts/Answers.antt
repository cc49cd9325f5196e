use Rattle.mon_engine.specs.World.{initial_contact}
use Rattle.mon_engine.proofs.ListLemmas.{mapped_more}
use Rattle.mon_engine.proofs.switches.first_contacts.Goals as goal

pub loop-contact-preserved : goal.loop-contact-preserved
loop-contact-preserved c =
    mapped_more initial_contact c.contacts-contact-items.result.now c.loop-contact.contact-index c.contact-item.result _ _ c.first_contact.result c.loop-contact-test.true c.contact-item.is c.loop-contact.invariant c.first_contact.ensures c.in_ok-push.ensures.items
