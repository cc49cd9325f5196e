use Rattle.mon_engine.specs.Report.{contact_line}
use Rattle.mon_state.proofs.TextLemmas.{grows_on, put_next_index}
use Rattle.mon_state.proofs.named_lines.put_contacts.Goals as goal

pub loop-contact-preserved : goal.loop-contact-preserved
loop-contact-preserved c =
    let so_far = c.loop-contact.invariant in
    record {
      put = put_next_index (contact_line c.args.inventory.now.contacts c.args.contacts.now) c.loop-contact.contact c.args.out.now.items c.loop-contact.out.items c.put_contact.new.out.items so_far.put c.in_ok-put_contact.ensures.ok;
      grown = grows_on _ _ _ so_far.grown c.put_contact.ensures.grown;
    }

pub returns-in_err-put_contact-clause-grown : goal.returns-in_err-put_contact-clause-grown
returns-in_err-put_contact-clause-grown c = grows_on _ _ _ c.loop-contact.invariant.grown c.put_contact.ensures.grown
