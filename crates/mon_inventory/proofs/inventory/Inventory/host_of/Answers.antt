use Rattle.std.proofs.Common.{sym, rules}
use Rattle.mon_inventory.specs.Lists.{StandsAt}
use Rattle.mon_inventory.specs.Lookups.{IsHostNamed}
use Rattle.mon_inventory.specs.Facts.{IsInventory}
use Rattle.mon_inventory.proofs.Lookups.{host_found}
use Rattle.mon_inventory.proofs.Facts.{host_is}
use Rattle.mon_inventory.proofs.inventory.Inventory.host_of.Goals as goal

pub returns-in-Some-clause-index : goal.returns-in-Some-clause-index
returns-in-Some-clause-index c =
    let there : StandsAt (IsHostNamed c.args.name.now) c.args.self.now.objects c.in-Some.host = search rules in
    let sound : IsInventory c.args.self.now = rw (← c.self.view_is) c.self.invariant.inventory in
    sym (host_is c.args.self.now c.args.name.now _ sound there)

pub returns-in-None-clause-found : goal.returns-in-None-clause-found
returns-in-None-clause-found c = rw (← c.self.view_is) (host_found c.self.inside.index.objects.items c.args.name.now _ c.host_of.ensures.index)
