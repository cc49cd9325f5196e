use Rattle.std.proofs.Common.{◌≡◌, true, false, sym, ◌∙◌, ap, subst, refl, arith}
use Rattle.mon_downtime.specs.declared.event.Event.{Event}
use Rattle.mon_downtime.specs.declared.rings.Neighbours.{Neighbours}
use Rattle.mon_downtime.specs.Order.{has}
use Rattle.mon_downtime.specs.Queue.{queued}
use Rattle.mon_downtime.specs.Rings.{is_in, next_of, previous_of}
use Rattle.mon_downtime.specs.Waiting.{is_unopened}
use Rattle.mon_downtime.proofs.RecordLemmas.{numbered, record_there}
use Rattle.mon_downtime.proofs.RingLemmas.{waits_is_place}
use Rattle.mon_downtime.proofs.WaitLemmas.{place_within, next_place}
use Rattle.mon_downtime.proofs.OpenLemmas.{IsWithout, opening_found, found_opening, in_its_ring, left_idle, left_queue, left_ring}
use Rattle.mon_downtime.proofs.waiting.Waiting.leave.Goals as goal

pub tie-requires-clause-before : goal.tie-requires-clause-before
tie-requires-clause-before c =
    let ds = c.args.records.now in
    let a = c.args.self.now in
    let d = c.index-records-id.result in
    let out = is_unopened ds (queued a.openings) in
    let found = record_there ds c.args.id d c.requires.records c.requires.there c.index-records-id.is in
    let its = opening_found ds c.args.id d c.in-Some.opening found c.in-Some.ensures in
    let here = in_its_ring ds a d c.args.id found its.0 (subst (λ (e : Event). has (queued a.openings) e ≡ false) its.1 (sym c.remove.ensures.was ∙ c.if-not-remove.true)) in
    let place = (c.requires.waiting.rings.ring d.object).place c.args.id (waits_is_place (is_in ds out d.object) c.args.id here) in
    let within = place_within ds out d.object (previous_of a.rings d.object c.args.id) (numbered 0 _ c.requires.records) place in
    let each = c.requires.waiting.rings.each in
    let previous = ap (λ (v : Neighbours). v.previous) c.at-here.ensures in
    omega (arith, previous, within, each)

pub tie-requires-clause-after : goal.tie-requires-clause-after
tie-requires-clause-after c =
    let ds = c.args.records.now in
    let a = c.args.self.now in
    let d = c.index-records-id.result in
    let out = is_unopened ds (queued a.openings) in
    let found = record_there ds c.args.id d c.requires.records c.requires.there c.index-records-id.is in
    let its = opening_found ds c.args.id d c.in-Some.opening found c.in-Some.ensures in
    let here = in_its_ring ds a d c.args.id found its.0 (subst (λ (e : Event). has (queued a.openings) e ≡ false) its.1 (sym c.remove.ensures.was ∙ c.if-not-remove.true)) in
    let place = next_place (is_in ds out d.object) (next_of a.rings d.object) (previous_of a.rings d.object) c.args.id (c.requires.waiting.rings.ring d.object) (waits_is_place (is_in ds out d.object) c.args.id here) in
    let within = place_within ds out d.object (next_of a.rings d.object c.args.id) (numbered 0 _ c.requires.records) place in
    let each = c.requires.waiting.rings.each in
    let next = ap (λ (v : Neighbours). v.next) c.at-here.ensures in
    omega (arith, next, within, each)

pub returns-in-None : goal.returns-in-None
returns-in-None c = λ fate begun. left_idle c.args.records.now c.args.self.now c.args.id fate c.requires.waiting (sym c.in-None.ensures) begun

pub returns-then-not-remove : goal.returns-then-not-remove
returns-then-not-remove c =
    let ds = c.args.records.now in
    let a = c.args.self.now in
    let d = c.index-records-id.result in
    let found = record_there ds c.args.id d c.requires.records c.requires.there c.index-records-id.is in
    let its = opening_found ds c.args.id d c.in-Some.opening found c.in-Some.ensures in
    λ fate begun. left_ring ds a _ d c.args.id fate (numbered 0 _ c.requires.records) c.requires.waiting found its.0 (subst (λ (e : Event). has (queued a.openings) e ≡ false) its.1 (sym c.remove.ensures.was ∙ c.if-not-remove.true)) begun
    (subst (λ (e : Event). IsWithout a.openings c.remove.new.self e) its.1 (record { queue = c.remove.ensures.queue; room = c.remove.ensures.room; events = c.remove.ensures.events }))
    (rw c.at-here.ensures at c.tie.ensures.tied)

pub returns-else-not-remove : goal.returns-else-not-remove
returns-else-not-remove c =
    let ds = c.args.records.now in
    let a = c.args.self.now in
    let its = found_opening ds c.args.id c.in-Some.opening c.in-Some.ensures in
    λ fate begun. left_queue ds a _ its.0 c.args.id fate c.requires.waiting its.1 (subst (λ (e : Event). has (queued a.openings) e ≡ true) its.2 (sym c.remove.ensures.was ∙ c.if-not-remove.false)) begun
    (subst (λ (e : Event). IsWithout a.openings c.remove.new.self e) its.2 (record { queue = c.remove.ensures.queue; room = c.remove.ensures.room; events = c.remove.ensures.events }))
    refl
