use Rattle.std.proofs.Common.{◌<◌, ◌∙◌, ap, length, sym}
use Rattle.mon_downtime.specs.Records.{record_of}
use Rattle.mon_engine.specs.World.{World}
use Rattle.mon_engine.proofs.FoundLemmas.{known_downtime}
use Rattle.mon_engine.proofs.state.State.tell_event.Goals as goal

pub tell_downtime-requires-clause-object : goal.tell_downtime-requires-clause-object
tell_downtime-requires-clause-object c =
    known_downtime (λ d. d.object < length c.args.inventory.now.objects) c.args.self.now.downtimes c.id.result c.in-Some.downtime.now c.requires.known
    (ap (λ (w : World). record_of w.downtimes c.id.result) (sym c.self.view_is) ∙ sym c.in-Some.ensures)
