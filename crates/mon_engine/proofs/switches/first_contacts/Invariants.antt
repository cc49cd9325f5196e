use Rattle.std.proofs.Common.{◌≡◌, take, map}
use Rattle.mon_engine.specs.World.{initial_contact}
use Rattle.mon_engine.proofs.switches.first_contacts.Given as goal

abbrev pub invariant-loop-contact : goal.invariant-loop-contact
invariant-loop-contact l = l.contacts.items ≡ map initial_contact (take l.contact-index l.contact-items)
