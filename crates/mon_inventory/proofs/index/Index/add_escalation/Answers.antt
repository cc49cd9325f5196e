use Rattle.std.proofs.Common.{rules, arith}
use Rattle.std.proofs.lemmas.Bool.{leb-false}
use Rattle.mon_inventory.specs.declared.limits.TheConstants.{MOST_ESCALATIONS}
use Rattle.mon_inventory.specs.Index.{IsIndexed, configuration}
use Rattle.mon_inventory.proofs.Fine.{object_within}
use Rattle.mon_inventory.proofs.Indexed.{on_ok, few_push, many_set, escalations_told_more}
use Rattle.mon_inventory.proofs.index.Index.add_escalation.Goals as goal

pub add_to_object-requires : goal.add_to_object-requires
add_to_object-requires c =
    let m = c.requires.indexed.escalations_many in
    let of = c.requires.object in
    let w = object_within (configuration c.args.self.now) c.args.escalation.now.host.now c.args.escalation.now.service.now c.requires.fine.host_known c.requires.fine.service_known in
    omega arith

pub returns-clause-indexed : goal.returns-clause-indexed
returns-clause-indexed c =
    let s = c.args.self.now in
    let r = c.requires.indexed in
    let object = c.args.object in
    let pushed = c.in_ok-push.ensures.items in
    let of = c.requires.object in
    let w = object_within (configuration s) c.args.escalation.now.host.now c.args.escalation.now.service.now c.requires.fine.host_known c.requires.fine.service_known in
    on_ok (IsIndexed (record s { escalations = c.push.new.self; object_escalations = c.add_to_object.new.lists })) _ c.add_to_object.ensures.ok (λ told. record {
      contacts_named = r.contacts_named;
      hosts_named = r.hosts_named;
      services_named = r.services_named;
      names_many = r.names_many;
      services_told = r.services_told;
      services_many = r.services_many;
      escalations_told = escalations_told_more s.escalations.items _ s.object_escalations.items _ _ object _ r.escalations_told (let m = r.escalations_many in omega arith) told pushed (search rules) (search rules);
      escalations_many = many_set s.object_escalations.items _ s.objects.items object _ r.escalations_many told;
      directives_many = r.directives_many;
      few_contacts = r.few_contacts;
      few_objects = r.few_objects;
      few_escalations = few_push _ _ _ _ (leb-false MOST_ESCALATIONS _ c.requires.fine.few) pushed;
    })
