use Rattle.std.proofs.Common.{refl, arith}
use Rattle.mon_downtime.proofs.OpenLemmas.{more_room}
use Rattle.mon_downtime.proofs.waiting.Waiting.reserve.Goals as goal

pub returns-in_err-reserve-clause-waiting : goal.returns-in_err-reserve-clause-waiting
returns-in_err-reserve-clause-waiting c = more_room c.args.records.now c.args.self.now _ c.requires.waiting c.requires.waiting.openings.queue refl (omega arith) (c.reserve.ensures.rings c.args.records.now)

pub returns-clause-waiting : goal.returns-clause-waiting
returns-clause-waiting c = more_room c.args.records.now c.args.self.now _ c.requires.waiting c.reserve-2.ensures.queue c.reserve-2.ensures.events c.reserve-2.ensures.room (c.reserve.ensures.rings c.args.records.now)
