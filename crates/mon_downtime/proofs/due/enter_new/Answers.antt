use Rattle.std.proofs.Common.{◌<◌, ◌||◌, ◌-◌, ◌∙◌, ap, length, arith, rules}
use Rattle.mon_downtime.specs.Queue.{in_block_of}
use Rattle.mon_downtime.proofs.RoomLemmas.{fits}
use Rattle.mon_downtime.proofs.ListedLemmas.{part_more}
use Rattle.mon_downtime.proofs.EnterLemmas.{are_new, others_are_part, lasts_are_events, starts_are_events, lasts_not_in, starts_not_in, all_are_in, last_id_is, start_id_is}
use Rattle.mon_downtime.proofs.due.enter_new.Goals as goal

pub enter-requires-clause-new : goal.enter-requires-clause-new
enter-requires-clause-new c = λ e h.
    let new = are_new c.args.records.now c.args.first c.requires.records c.requires.there c.requires.alike in
    c.requires.others e ∙ starts_not_in _ _ _ _ new c.start_event-starts.ensures e h

pub enter-requires-clause-ids : goal.enter-requires-clause-ids
enter-requires-clause-ids c =
    let short : length c.args.records.now < 18446744073709551616 = search rules in
    start_id_is c.args.records.now c.args.first _ _ c.start_event-starts.result c.start_event-starts.ensures (omega (arith, short, c.requires.there.0, c.requires.there.1))

pub enter-requires-clause-room : goal.enter-requires-clause-room
enter-requires-clause-room c =
    let new = are_new c.args.records.now c.args.first c.requires.records c.requires.there c.requires.alike in
    let part = others_are_part c.args.records.now c.args.queue.now c.args.first c.requires.queue c.requires.room c.requires.others in
    fits c.args.records.now c.args.queue.now c.start_event-starts.result _ new.numbered part (starts_are_events _ _ _ _ new c.start_event-starts.ensures) (enter-requires-clause-new c)

pub enter-requires-2-clause-new : goal.enter-requires-2-clause-new
enter-requires-2-clause-new c = λ e h.
    let new = are_new c.args.records.now c.args.first c.requires.records c.requires.there c.requires.alike in
    c.enter.ensures.events e
    ∙ ap (λ b. in_block_of c.start_event-starts.result (length c.args.records.now - (c.args.first - 1)) e || b) (c.requires.others e)
    ∙ lasts_not_in _ _ _ _ _ new c.start_event-starts.ensures c.last_event-expires.ensures e h

pub enter-requires-2-clause-ids : goal.enter-requires-2-clause-ids
enter-requires-2-clause-ids c =
    let short : length c.args.records.now < 18446744073709551616 = search rules in
    last_id_is c.args.records.now c.args.first _ _ c.last_event-expires.result c.last_event-expires.ensures (omega (arith, short, c.requires.there.0, c.requires.there.1))

pub enter-requires-2-clause-room : goal.enter-requires-2-clause-room
enter-requires-2-clause-room c =
    let new = are_new c.args.records.now c.args.first c.requires.records c.requires.there c.requires.alike in
    let part = others_are_part c.args.records.now c.args.queue.now c.args.first c.requires.queue c.requires.room c.requires.others in
    let more = part_more _ c.args.queue.now c.enter.new.queue _ part c.enter.ensures.queue c.enter.ensures.room c.enter.ensures.events (starts_are_events _ _ _ _ new c.start_event-starts.ensures) in
    fits c.args.records.now c.enter.new.queue c.last_event-expires.result _ new.numbered more (lasts_are_events _ _ _ _ new c.last_event-expires.ensures) (enter-requires-2-clause-new c)

pub returns : goal.returns
returns c =
    let new = are_new c.args.records.now c.args.first c.requires.records c.requires.there c.requires.alike in
    record {
      listed = record {
        queue = c.enter-2.ensures.queue;
        exact = λ e.
            c.enter-2.ensures.events e
            ∙ ap (λ b. in_block_of c.last_event-expires.result (length c.args.records.now - (c.args.first - 1)) e || b) (c.enter.ensures.events e ∙ ap (λ b. in_block_of c.start_event-starts.result (length c.args.records.now - (c.args.first - 1)) e || b) (c.requires.others e))
            ∙ all_are_in _ _ _ _ _ new c.start_event-starts.ensures c.last_event-expires.ensures e;
        room = rw (c.enter-2.ensures.room, c.enter.ensures.room) c.requires.room;
      };
    }
