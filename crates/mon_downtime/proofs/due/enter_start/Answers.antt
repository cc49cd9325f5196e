use Rattle.std.proofs.Common.{◌∙◌, sym, ap, ◌||◌, arith}
use Rattle.mon_downtime.specs.Order.{has}
use Rattle.mon_downtime.specs.Queue.{queued}
use Rattle.mon_downtime.specs.Listed.{is_start}
use Rattle.mon_downtime.proofs.RecordLemmas.{numbered}
use Rattle.mon_downtime.proofs.ListedLemmas.{part_more, start_is_event}
use Rattle.mon_downtime.proofs.EnterLemmas.{one_alone, start_id_is}
use Rattle.mon_downtime.proofs.RoomLemmas.{fits}
use Rattle.mon_downtime.proofs.due.enter_start.Goals as goal

pub enter-requires-clause-new : goal.enter-requires-clause-new
unfolding is_start
enter-requires-clause-new c = λ e h. c.requires.new e (sym (one_alone c.start_event-event.result _ e c.start_event-event.ensures) ∙ h)

pub enter-requires-clause-ids : goal.enter-requires-clause-ids
enter-requires-clause-ids c = start_id_is c.args.records.now c.args.id 1 _ c.start_event-event.result c.start_event-event.ensures (omega arith)

pub enter-requires-clause-room : goal.enter-requires-clause-room
unfolding is_start
enter-requires-clause-room c = fits c.args.records.now c.args.queue.now c.start_event-event.result 1 (numbered 0 _ c.requires.records) c.requires.part
    (λ e h. start_is_event c.args.records.now c.args.id e (sym (one_alone c.start_event-event.result _ e c.start_event-event.ensures) ∙ h))
    (enter-requires-clause-new c)

pub returns-clause-events : goal.returns-clause-events
unfolding is_start
returns-clause-events c = λ e. c.enter.ensures.events e ∙ ap (λ b. b || has (queued c.args.queue.now) e) (one_alone c.start_event-event.result _ e c.start_event-event.ensures)

pub returns-clause-part : goal.returns-clause-part
returns-clause-part c = part_more c.args.records.now c.args.queue.now c.enter.new.queue (is_start c.args.records.now c.args.id) c.requires.part c.enter.ensures.queue c.enter.ensures.room (returns-clause-events c) (λ e h. start_is_event c.args.records.now c.args.id e h)
