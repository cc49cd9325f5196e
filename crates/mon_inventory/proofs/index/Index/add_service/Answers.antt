use Rattle.std.proofs.Common.{rules, arith, ap, ◌∙◌, ◌++◌, ◌∷◌, [], List, ℕ}
use Rattle.std.proofs.lemmas.Bool.{leb-false}
use Rattle.mon_inventory.specs.declared.records.ObjectSpec.{ObjectSpec}
use Rattle.mon_inventory.specs.declared.limits.TheConstants.{MOST_OBJECTS}
use Rattle.mon_inventory.specs.Index.{IsIndexed}
use Rattle.mon_inventory.proofs.Fine.{host_within}
use Rattle.mon_inventory.proofs.Indexed.{on_ok, few_push, tells_hosts_kept, services_service, as_many_push, as_many_set, services_told_service, escalations_told_pad}
use Rattle.mon_inventory.proofs.index.Index.add_service.Goals as goal

pub add_service_name-requires-clause-within : goal.add_service_name-requires-clause-within
add_service_name-requires-clause-within c =
    let m = c.requires.indexed.names_many in
    let of = c.requires.host in
    let w = host_within c.args.self.now.objects.items c.args.service.now.host.now c.requires.fine.host_known in
    omega arith

pub add_to_object-requires : goal.add_to_object-requires
add_to_object-requires c =
    let m = c.requires.indexed.services_many in
    let of = c.requires.host in
    let w = host_within c.args.self.now.objects.items c.args.service.now.host.now c.requires.fine.host_known in
    omega arith

pub returns-clause-indexed : goal.returns-clause-indexed
returns-clause-indexed c =
    let s = c.args.self.now in
    let r = c.requires.indexed in
    let is = c.in_ok-spec.ensures.ok in
    let host = c.args.host in
    let name = c.args.service.now.name.now in
    let some = ap (λ (o : ObjectSpec). o.service) is in
    let of = c.requires.host in
    let w = host_within s.objects.items c.args.service.now.host.now c.requires.fine.host_known in
    on_ok (IsIndexed c.add_object.new.self) _ c.add_object.ensures.ok (λ added.
    let named = added.service_names ∙ ap (λ (t : List (List (List ℕ × ℕ))). t ++ [] ∷ []) c.in_ok-add_service_name.ensures.ok in
    let told = added.services ∙ ap (λ (t : List (List ℕ)). t ++ [] ∷ []) c.in_ok-add_to_object.ensures.ok in
    record {
      contacts_named = rw (added.contact_names, added.contacts) r.contacts_named;
      hosts_named = rw added.host_names (tells_hosts_kept s.host_names s.objects.items _ _ name r.hosts_named added.objects some);
      services_named = services_service s.objects.items _ s.service_names.items _ _ host _ name r.services_named (let m = r.names_many in omega arith) named added.objects some (search rules) (search rules);
      names_many = as_many_set s.service_names.items _ s.objects.items _ host _ _ _ r.names_many named added.objects;
      services_told = services_told_service s.objects.items _ s.services.items _ _ host _ name r.services_told (let m = r.services_many in omega arith) told added.objects some (search rules) (search rules);
      services_many = as_many_set s.services.items _ s.objects.items _ host _ _ _ r.services_many told added.objects;
      escalations_told = rw added.escalations (escalations_told_pad s.escalations.items s.object_escalations.items _ r.escalations_told added.object_escalations);
      escalations_many = as_many_push _ _ _ _ _ _ r.escalations_many added.object_escalations added.objects;
      directives_many = as_many_push _ _ _ _ _ _ r.directives_many added.directives added.objects;
      few_contacts = rw added.contacts r.few_contacts;
      few_objects = few_push _ _ _ _ (leb-false MOST_OBJECTS _ c.requires.fine.few) added.objects;
      few_escalations = rw added.escalations r.few_escalations;
    })
