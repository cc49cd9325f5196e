use Rattle.std.proofs.Common.{◌<◌, Some, None, length, refl, ap, sym, ◌∙◌, arith}
use Rattle.std.proofs.lemmas.Option.{slice_get-get_or}
use Rattle.mon_inventory.specs.Lookups.{contact_of}
use Rattle.mon_carry.proofs.LawLemmas.{contact_from}
use Rattle.mon_carry.proofs.contacts.contact_carried.Goals as goal

pub returns-in-None : goal.returns-in-None
returns-in-None c = sym (contact_from c.args.old.now.contacts c.args.switches.now c.args.contact.now None None (ap (contact_of c.args.old.now.contacts) (sym c.as_bytes.ensures) ∙ sym c.in-None.ensures.index) refl)

pub returns-in-Some : goal.returns-in-Some
returns-in-Some c =
    let within : c.in-Some.index < length c.args.switches.now = (let found = c.in-Some.ensures.found.within in omega arith) in
    sym (contact_from c.args.old.now.contacts c.args.switches.now c.args.contact.now (Some _) (Some c.in-Some.index) (ap (contact_of c.args.old.now.contacts) (sym c.as_bytes.ensures) ∙ sym c.in-Some.ensures.index) (slice_get-get_or c.args.switches.now c.in-Some.index _ within))
