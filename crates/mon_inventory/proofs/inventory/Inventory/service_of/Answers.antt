use Rattle.std.proofs.Common.{◌≡◌, Some, sym, rules}
use Rattle.mon_inventory.specs.Lists.{StandsAt}
use Rattle.mon_inventory.specs.Lookups.{IsServiceNamed, host_of}
use Rattle.mon_inventory.specs.Facts.{IsInventory}
use Rattle.mon_inventory.specs.Index.{configuration}
use Rattle.mon_inventory.proofs.Facts.{IsFound, service_stands, service_is, if_stands_weaker}
use Rattle.mon_inventory.proofs.inventory.Inventory.service_of.Goals as goal

pub returns-in-Some-clause-index : goal.returns-in-Some-clause-index
returns-in-Some-clause-index c =
    let there : StandsAt (IsServiceNamed c.args.host.now c.args.service.now) c.args.self.now.objects c.in-Some.service = search rules in
    let sound : IsInventory c.args.self.now = rw (← c.self.view_is) c.self.invariant.inventory in
    sym (service_is c.args.self.now c.args.host.now c.args.service.now _ sound there)

pub returns-in-Some-clause-its_host : goal.returns-in-Some-clause-its_host
returns-in-Some-clause-its_host c =
    let k = c.args.self.now in
    let host = c.args.host.now in
    let name = c.args.service.now in
    let there : StandsAt (IsServiceNamed host name) k.objects c.in-Some.service = search rules in
    let sound : IsInventory k = rw (← c.self.view_is) c.self.invariant.inventory in
    if_stands_weaker (IsFound k.objects host name) (λ o. host_of k.objects host ≡ Some o.host_object) k.objects (Some c.in-Some.service) (λ o h. h.1)
    (service_stands k host name (Some c.in-Some.service) sound (sym (service_is k host name c.in-Some.service sound there)))

pub returns-in-None-clause-found : goal.returns-in-None-clause-found
returns-in-None-clause-found c =
    let k = configuration c.self.inside.index in
    let host = c.args.host.now in
    let name = c.args.service.now in
    rw (← c.self.view_is) (if_stands_weaker (IsFound k.objects host name) (IsServiceNamed host name) k.objects _ (λ o h. h.0) (service_stands k host name _ c.self.invariant.inventory c.service_of.ensures))

pub returns-in-None-clause-its_host : goal.returns-in-None-clause-its_host
returns-in-None-clause-its_host c =
    let k = configuration c.self.inside.index in
    let host = c.args.host.now in
    let name = c.args.service.now in
    rw (← c.self.view_is) (if_stands_weaker (IsFound k.objects host name) (λ o. host_of k.objects host ≡ Some o.host_object) k.objects _ (λ o h. h.1) (service_stands k host name _ c.self.invariant.inventory c.service_of.ensures))
