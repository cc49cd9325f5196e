use Rattle.std.proofs.Common.{refl}
use Rattle.std.proofs.lemmas.Option.{slice_get_read}
use Rattle.mon_inventory.proofs.inventory.Inventory.contact.Goals as goal

pub returns : goal.returns
returns c =
    let within = rw (← c.self.view_is) at c.requires in
    rw (← c.self.view_is) (slice_get_read c.self.inside.index.contacts.items _ c.args.contact c.index.result.now refl within c.index.ensures)
