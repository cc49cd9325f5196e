use Rattle.std.proofs.Common.{◌<◌, ◌∙◌, ap, length, sym}
use Rattle.std.specs.Option.{option_copied}
use Rattle.mon_engine.proofs.FoundLemmas.{known_downtime}
use Rattle.mon_engine.proofs.state.State.del_downtime.Goals as goal

pub has_downtime-requires : goal.has_downtime-requires
has_downtime-requires c = λ x e.
    known_downtime (λ d. d.object < length c.args.inventory.now.objects) c.args.self.now.downtimes c.args.id x.now c.requires.known
    (rw (← c.self.view_is) (sym c.find.ensures ∙ ap option_copied e))
