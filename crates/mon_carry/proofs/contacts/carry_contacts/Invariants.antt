use Rattle.std.proofs.Common.{◌≡◌, take, map}
use Rattle.mon_carry.specs.Carried.{contact_carried}
use Rattle.mon_carry.proofs.contacts.carry_contacts.Given as goal

abbrev pub invariant-loop-contact : goal.invariant-loop-contact
invariant-loop-contact l = l.carried.items ≡ map (contact_carried l.old.contacts l.switches) (take l.contact-index l.contact-items)
