use Rattle.std.proofs.Common.{refl}
use Rattle.std.proofs.lemmas.Option.{slice_get_read}
use Rattle.mon_inventory.proofs.inventory.Inventory.object.Goals as goal

pub returns-clause-sound : goal.returns-clause-sound
returns-clause-sound c =
    let within = rw (← c.self.view_is) at c.requires in
    let is = slice_get_read c.self.inside.index.objects.items _ c.args.object c.index.result.now refl within c.index.ensures in
    rw (← c.self.view_is) (c.self.invariant.inventory.objects c.args.object c.index.result.now is)
