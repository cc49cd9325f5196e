use Rattle.std.proofs.Common.{◌||◌, ◌∙◌, ap}
use Rattle.mon_downtime.specs.Listed.{hangs_on}
use Rattle.mon_downtime.proofs.RecordLemmas.{numbered}
use Rattle.mon_downtime.proofs.ChangeLemmas.{IsExchange, old_there, new_absent, room_for_new, exchanged, put_is_part, hung_not_put, whole_is, AreLinked-with_fate}
use Rattle.mon_downtime.proofs.due.change_fate.Goals as goal
use Rattle.mon_downtime.proofs.due.change_fate.Goals.{After-last_event-after}

exchange : (c : After-last_event-after) → IsExchange c.args.records.now c.args.id c.args.fate c.args.queue.now c.forget_all_starts.new.queue c.last_event-before.result c.last_event-after.result
exchange c = record {
  numbered = numbered 0 _ c.requires.records;
  first = c.requires.there.0;
  listed = c.requires.listed;
  queue = c.forget_all_starts.ensures.queue;
  room = c.forget_all_starts.ensures.room;
  rest = c.forget_all_starts.ensures.rest;
  before_is = c.last_event-before.ensures;
  after_is = rw (← c.set_fate.ensures.set) c.last_event-after.ensures;
}

pub exchange-requires-clause-there : goal.exchange-requires-clause-there
exchange-requires-clause-there c = old_there _ _ _ _ _ _ _ (exchange c.before)

pub exchange-requires-clause-new : goal.exchange-requires-clause-new
exchange-requires-clause-new c = new_absent _ _ _ _ _ _ _ (exchange c.before)

pub exchange-requires-clause-room : goal.exchange-requires-clause-room
exchange-requires-clause-room c = room_for_new _ _ _ _ _ _ _ (exchange c.before)

pub enter_starts-requires-clause-part : goal.enter_starts-requires-clause-part
enter_starts-requires-clause-part c =
    let w = exchange c.before.before.before in
    rw c.set_fate.ensures.set (put_is_part c.args.records.now c.args.id (λ _. c.args.fate) c.args.queue.now c.exchange.new.queue c.requires.listed c.exchange.ensures.queue (c.exchange.ensures.room ∙ c.forget_all_starts.ensures.room)
    (λ e. exchanged _ _ _ _ _ c.exchange.new.queue _ _ e w (c.exchange.ensures.events e)))

pub enter_starts-requires-clause-links : goal.enter_starts-requires-clause-links
enter_starts-requires-clause-links c = rw c.set_fate.ensures.set (AreLinked-with_fate c.args.records.now c.args.links.now c.args.id (λ _. c.args.fate) c.requires.links)

pub enter_starts-requires-clause-new : goal.enter_starts-requires-clause-new
enter_starts-requires-clause-new c = λ e h.
    exchanged _ _ _ _ _ c.exchange.new.queue _ _ e (exchange c.before.before.before) (c.exchange.ensures.events e)
    ∙ hung_not_put c.args.records.now c.args.id (λ _. c.args.fate) e (numbered 0 _ c.requires.records) c.requires.there.0 (rw (← c.set_fate.ensures.set) h)

pub returns-clause-listed : goal.returns-clause-listed
returns-clause-listed c = record {
  queue = c.enter_starts.ensures.part.queue;
  exact = λ e.
      c.enter_starts.ensures.events e
      ∙ ap (λ b. hangs_on c.set_fate.new.records c.args.id e || b) (exchanged _ _ _ _ _ c.exchange.new.queue _ _ e (exchange c.before.before.before.before) (c.exchange.ensures.events e))
      ∙ (rw c.set_fate.ensures.set (whole_is c.args.records.now c.args.id c.args.fate e (numbered 0 _ c.requires.records) c.requires.there.0 c.requires.begun));
  room = c.enter_starts.ensures.part.room;
}

pub returns-clause-links : goal.returns-clause-links
returns-clause-links c = rw c.set_fate.ensures.set (AreLinked-with_fate c.args.records.now c.args.links.now c.args.id (λ _. c.args.fate) c.requires.links)
