use Rattle.mon_inventory.proofs.Lookups.{services_exactly}
use Rattle.mon_inventory.proofs.inventory.Inventory.services_of.Goals as goal

pub returns-clause-exactly : goal.returns-clause-exactly
returns-clause-exactly c = rw (c.services_of.ensures, ← c.self.view_is) (services_exactly c.self.inside.index.objects.items c.args.host)
