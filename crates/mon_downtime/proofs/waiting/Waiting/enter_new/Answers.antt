use Rattle.std.proofs.Common.{◌<◌, length, refl, arith, rules}
use Rattle.mon_downtime.proofs.EnterLemmas.{are_new}
use Rattle.mon_downtime.proofs.OpenLemmas.{opening_not_in, opening_id_is, opening_fits, all_entered}
use Rattle.mon_downtime.proofs.waiting.Waiting.enter_new.Goals as goal

pub enter-requires-clause-new : goal.enter-requires-clause-new
enter-requires-clause-new c = opening_not_in c.args.records.now c.args.self.now.openings c.args.first _ c.opening_of.result (are_new _ _ c.requires.records c.requires.there c.requires.alike) c.opening_of.ensures c.requires.others

pub enter-requires-clause-ids : goal.enter-requires-clause-ids
enter-requires-clause-ids c =
    let short : length c.args.records.now < 18446744073709551616 = search rules in
    opening_id_is c.args.records.now c.args.first _ _ c.opening_of.result c.opening_of.ensures (omega (arith, short, c.requires.there.0, c.requires.there.1))

pub enter-requires-clause-room : goal.enter-requires-clause-room
enter-requires-clause-room c = opening_fits c.args.records.now c.args.self.now.openings c.args.first _ c.opening_of.result (are_new _ _ c.requires.records c.requires.there c.requires.alike) c.opening_of.ensures c.requires.queue c.requires.room c.requires.others

pub returns : goal.returns
returns c = all_entered c.args.records.now c.args.self.now _ c.args.first _ c.opening_of.result (are_new _ _ c.requires.records c.requires.there c.requires.alike) c.opening_of.ensures c.enter.ensures.queue c.enter.ensures.room c.requires.room c.requires.others c.enter.ensures.events refl c.requires.rings
