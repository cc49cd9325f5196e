use Rattle.std.proofs.Common.{◌≡◌, ◌++◌, drop, filter_map}
use Rattle.mon_carry.specs.Names.{contact_moved}
use Rattle.mon_carry.proofs.owed.contacts_moved.Given as goal

abbrev pub invariant-loop-contact : goal.invariant-loop-contact
invariant-loop-contact l = l.moved.items ++ filter_map (contact_moved l.old.contacts l.new.contacts) (drop l.contact-index l.contacts) ≡ filter_map (contact_moved l.old.contacts l.new.contacts) l.contacts
