use Rattle.mon_inventory.proofs.Lookups.{escalations_exactly, escalations_in_order}
use Rattle.mon_inventory.proofs.inventory.Inventory.escalations_of.Goals as goal

pub returns-clause-exactly : goal.returns-clause-exactly
returns-clause-exactly c = rw (c.escalations_of.ensures, ← c.self.view_is) (escalations_exactly c.self.inside.index.escalations.items c.args.object)

pub returns-clause-in_order : goal.returns-clause-in_order
returns-clause-in_order c = rw (c.escalations_of.ensures, ← c.self.view_is) (escalations_in_order c.self.inside.index.escalations.items c.args.object)
