use Rattle.mon_inventory.proofs.Lookups.{contact_found}
use Rattle.mon_inventory.proofs.inventory.Inventory.contact_of.Goals as goal

pub returns-clause-found : goal.returns-clause-found
returns-clause-found c = rw (← c.self.view_is) (contact_found c.self.inside.index.contacts.items c.args.name.now _ c.contact_of.ensures)
