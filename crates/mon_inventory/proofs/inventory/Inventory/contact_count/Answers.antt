use Rattle.std.proofs.Common.{◌∙◌}
use Rattle.mon_inventory.proofs.inventory.Inventory.contact_count.Goals as goal

pub returns-clause-count : goal.returns-clause-count
returns-clause-count c = rw (← c.self.view_is) (c.len.ensures ∙ c.self.inside.index.contacts.ok.0)
