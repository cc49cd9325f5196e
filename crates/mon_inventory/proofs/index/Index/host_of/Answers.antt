use Rattle.std.proofs.Common.{◌∙◌}
use Rattle.mon_inventory.specs.Lookups.{IsHostNamed}
use Rattle.mon_inventory.proofs.Lookups.{host_found, found_within}
use Rattle.mon_inventory.proofs.index.Index.host_of.Goals as goal

pub returns-clause-within : goal.returns-clause-within
returns-clause-within c =
    let os = c.args.self.now.objects.items in
    found_within (IsHostNamed c.args.name.now) os _ (host_found os c.args.name.now _ (c.get.ensures ∙ c.requires.hosts_named c.args.name.now))
