use Rattle.std.proofs.Common.{ap, ◌∙◌, map}
use Rattle.std.specs.Str.{bytes_eq}
use Rattle.indexmap.proofs.CallerLemmas.{insert_entry-new}
use Rattle.mon_inventory.specs.Names.{named}
use Rattle.mon_inventory.proofs.Pushes.{lookup_keys, mapped_push}
use Rattle.mon_inventory.proofs.names.NameIndex.add.Goals as goal

pub returns-clause-ok : goal.returns-clause-ok
returns-clause-ok c =
    let key = c.in_ok-key.key in
    let absent = lookup_keys (λ k. k.items) (bytes_eq key.items) c.self.inside.indices.entries
    ∙ ap (λ es. named es key.items) c.self.view_is ∙ ap (named c.args.self.now) c.in_ok-key.ensures.items ∙ c.requires in
    ap (map (λ e. (e.0.items, e.1))) (c.in_ok-insert.ensures.entries ∙ insert_entry-new _ c.self.inside.indices key c.args.index absent)
    ∙ mapped_push (λ k. k.items) c.self.inside.indices.entries key c.args.index _ _ c.self.view_is c.in_ok-key.ensures.items
