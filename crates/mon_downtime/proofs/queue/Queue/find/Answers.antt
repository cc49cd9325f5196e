use Rattle.std.proofs.Common.{◌≡◌, arith, sym, ◌∙◌, ap, length}
use Rattle.std.proofs.lemmas.List.{get_or_default}
use Rattle.mon_downtime.specs.declared.event.Event.{Event}
use Rattle.mon_downtime.specs.Order.{same}
use Rattle.mon_downtime.specs.Queue.{IsPlaceOf, queued}
use Rattle.mon_downtime.proofs.OrderLemmas.{absent}
use Rattle.mon_downtime.proofs.queue.Queue.find.Goals as goal

pub returns-then-at-events-clause-missing : goal.returns-then-at-events-clause-missing
returns-then-at-events-clause-missing c =
    let es = queued c.args.self.now in
    let p : IsPlaceOf es c.args.event.now c.place_of-at.result = rw (← c.events-events.ensures) c.place_of-at.ensures in
    let end : c.place_of-at.result ≡ length es = rw (← c.events-events.ensures) c.if-at-events.true in
    absent c.place_of-at.result es c.args.event.now c.requires.ascending p (λ d l. absurd (omega arith))

pub returns-else-is_same-clause-missing : goal.returns-else-is_same-clause-missing
returns-else-is_same-clause-missing c =
    let es = queued c.args.self.now in
    let p : IsPlaceOf es c.args.event.now c.place_of-at.result = rw (← c.events-events.ensures) c.place_of-at.ensures in
    let is = rw c.events-events.ensures at c.index-events-at.is in
    absent c.place_of-at.result es c.args.event.now c.requires.ascending p (λ d l. ap (λ (x : Event). same x c.args.event.now) (get_or_default es c.place_of-at.result d c.index-events-at.result l ∙ sym is) ∙ sym c.is_same.ensures ∙ c.if-is_same.false)
