use Rattle.std.proofs.Common.{ap}
use Rattle.std.proofs.lemmas.Bool.{leb-false}
use Rattle.mon_inventory.specs.declared.records.ObjectSpec.{ObjectSpec}
use Rattle.mon_inventory.specs.declared.limits.TheConstants.{MOST_OBJECTS}
use Rattle.mon_inventory.specs.Index.{IsIndexed}
use Rattle.mon_inventory.proofs.Indexed.{on_ok, few_push, tells_host, services_host, as_many_push, services_told_host, escalations_told_pad}
use Rattle.mon_inventory.proofs.index.Index.add_host.Goals as goal

pub returns-clause-indexed : goal.returns-clause-indexed
returns-clause-indexed c =
    let s = c.args.self.now in
    let r = c.requires.indexed in
    let is = c.in_ok-spec.ensures.ok in
    let none = ap (λ (o : ObjectSpec). o.service) is in
    let added = c.in_ok-add_object.ensures.ok in
    on_ok (IsIndexed (record c.add_object.new.self { host_names = c.add.new.self })) _ c.add.ensures.ok (λ named. record {
      contacts_named = rw (added.contact_names, added.contacts) r.contacts_named;
      hosts_named = tells_host c.add_object.new.self.host_names _ s.objects.items _ _ c.args.host.now.name.now _ (rw added.host_names r.hosts_named) named added.objects (ap (λ (o : ObjectSpec). o.host) is) none (ap (λ (o : ObjectSpec). o.host_object) is);
      services_named = services_host s.objects.items _ s.service_names.items _ _ r.services_named added.service_names added.objects none;
      names_many = as_many_push _ _ _ _ _ _ r.names_many added.service_names added.objects;
      services_told = services_told_host s.objects.items _ s.services.items _ _ r.services_told added.services added.objects none;
      services_many = as_many_push _ _ _ _ _ _ r.services_many added.services added.objects;
      escalations_told = rw added.escalations (escalations_told_pad s.escalations.items s.object_escalations.items _ r.escalations_told added.object_escalations);
      escalations_many = as_many_push _ _ _ _ _ _ r.escalations_many added.object_escalations added.objects;
      directives_many = as_many_push _ _ _ _ _ _ r.directives_many added.directives added.objects;
      few_contacts = rw added.contacts r.few_contacts;
      few_objects = few_push _ _ _ _ (leb-false MOST_OBJECTS _ c.requires.fine.few) added.objects;
      few_escalations = rw added.escalations r.few_escalations;
    })
