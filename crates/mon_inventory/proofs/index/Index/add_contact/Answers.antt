use Rattle.std.proofs.Common.{ap, rules}
use Rattle.std.proofs.lemmas.Bool.{leb-false}
use Rattle.mon_inventory.specs.declared.records.ContactSpec.{ContactSpec}
use Rattle.mon_inventory.specs.declared.limits.TheConstants.{MOST_CONTACTS}
use Rattle.mon_inventory.specs.Index.{IsIndexed}
use Rattle.mon_inventory.proofs.Indexed.{on_ok, few_push, tells_contact}
use Rattle.mon_inventory.proofs.index.Index.add_contact.Goals as goal

pub returns-clause-indexed : goal.returns-clause-indexed
returns-clause-indexed c =
    let s = c.args.self.now in
    let r = c.requires.indexed in
    let pushed = c.in_ok-push.ensures.items in
    on_ok (IsIndexed (record s { contacts = c.push.new.self; contact_names = c.add.new.self })) _ c.add.ensures.ok (λ named. record {
      contacts_named = tells_contact s.contact_names _ s.contacts.items _ _ c.args.contact.now.name.now _ r.contacts_named named pushed (ap (λ (x : ContactSpec). x.name) c.in_ok-contact_spec.ensures.ok) (search rules);
      hosts_named = r.hosts_named;
      services_named = r.services_named;
      names_many = r.names_many;
      services_told = r.services_told;
      services_many = r.services_many;
      escalations_told = r.escalations_told;
      escalations_many = r.escalations_many;
      directives_many = r.directives_many;
      few_contacts = few_push _ _ _ _ (leb-false MOST_CONTACTS _ c.requires.fine.few) pushed;
      few_objects = r.few_objects;
      few_escalations = r.few_escalations;
    })
