use Rattle.mon_inventory.proofs.inventory.Inventory.contacts.Goals as goal

pub returns : goal.returns
returns c = rw (← c.self.view_is) c.deref.ensures.value
