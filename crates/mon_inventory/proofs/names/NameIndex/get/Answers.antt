use Rattle.std.proofs.Common.{ap, ◌∙◌}
use Rattle.std.specs.Str.{bytes_eq}
use Rattle.mon_inventory.specs.Names.{named}
use Rattle.mon_inventory.proofs.Pushes.{lookup_keys}
use Rattle.mon_inventory.proofs.names.NameIndex.get.Goals as goal

pub returns : goal.returns
returns c =
    c.copied.ensures ∙ c.get.ensures.value ∙ lookup_keys (λ k. k.items) (bytes_eq c.args.name.now) c.self.inside.indices.entries
    ∙ ap (λ es. named es c.args.name.now) c.self.view_is
