use Rattle.std.proofs.Common.{◌≡◌, ◌+◌, ◌-◌, ◌∙◌, List, drop, get_or, ap, subst, arith, rules}
use Rattle.mon_downtime.specs.declared.event.Event.{Event}
use Rattle.mon_downtime.specs.declared.rings.Neighbours.{Neighbours}
use Rattle.mon_downtime.specs.Queue.{retired}
use Rattle.mon_downtime.specs.Rings.{is_in, at_place, next_of, previous_of, AreTied}
use Rattle.mon_downtime.specs.Waiting.{is_yet, AreOpening}
use Rattle.mon_downtime.proofs.RecordLemmas.{numbered}
use Rattle.mon_downtime.proofs.WaitLemmas.{IsTurned, place_within, next_place, begins_back, goes_back, back_falls, ends_back}
use Rattle.mon_downtime.proofs.OpenLemmas.{left_at, opening_within, is_to_open, in_no_ring, opened}
use Rattle.mon_downtime.proofs.waiting.Waiting.open.Goals as goal

pub overflow_sub-d : goal.overflow_sub-d
overflow_sub-d c =
    let l = left_at c.args.records.now c.args.self.now.openings c.args.count c.args.i c.retired.result c.requires.waiting.openings.queue c.requires.left c.requires.within c.retired.ensures in
    rw c.id-id.ensures (opening_within c.args.records.now c.retired.result (numbered 0 _ c.requires.records) l.opens).0

pub offset_bounds-records-id : goal.offset_bounds-records-id
offset_bounds-records-id c =
    let l = left_at c.args.records.now c.args.self.now.openings c.args.count c.args.i c.retired.result c.requires.waiting.openings.queue c.requires.left c.requires.within c.retired.ensures in
    let is = c.id-id.ensures in
    let last = (opening_within c.args.records.now c.retired.result (numbered 0 _ c.requires.records) l.opens).1 in
    search (rules, is, last)

pub bounds-records-id : goal.bounds-records-id
bounds-records-id c =
    let l = left_at c.args.records.now c.args.self.now.openings c.args.count c.args.i c.retired.result c.requires.waiting.openings.queue c.requires.left c.requires.within c.retired.ensures in
    let within = opening_within c.args.records.now c.retired.result (numbered 0 _ c.requires.records) l.opens in
    omega (arith, c.id-id.ensures, within.0, within.1)

pub loop-before-init : goal.loop-before-init
loop-before-init c =
    let ring = c.requires.waiting.rings.ring c.index-records-id.result.object in
    rw (ap (λ (v : Neighbours). v.previous) c.at-before.ensures) (begins_back _ _ _ c.id-id.result ring)

pub loop-before-smaller : goal.loop-before-smaller
loop-before-smaller c =
    let ring = c.requires.waiting.rings.ring c.index-records-id.result.object in
    rw (ap (λ (v : Neighbours). v.previous) c.at-before-in-loop-before.ensures) (back_falls _ _ _ c.loop-before.before c.id-id.result ring c.loop-before.invariant c.loop-before-test.true)

pub loop-before-preserved : goal.loop-before-preserved
loop-before-preserved c =
    let ring = c.requires.waiting.rings.ring c.index-records-id.result.object in
    rw (ap (λ (v : Neighbours). v.previous) c.at-before-in-loop-before.ensures) (goes_back _ _ _ c.loop-before.before c.id-id.result ring c.loop-before.invariant c.loop-before-test.true)

pub put-requires-clause-end : goal.put-requires-clause-end
put-requires-clause-end c =
    let l = left_at c.args.records.now c.args.self.now.openings c.args.count c.args.i c.retired.result c.requires.waiting.openings.queue c.requires.left c.requires.within c.retired.ensures in
    let within = opening_within c.args.records.now c.retired.result (numbered 0 _ c.requires.records) l.opens in
    let first = within.0 in
    let last = within.1 in
    let is = c.id-id.ensures in
    search (rules, first, last, is)

pub put-requires-clause-within : goal.put-requires-clause-within
put-requires-clause-within c =
    let l = left_at c.args.records.now c.args.self.now.openings c.args.count c.args.i c.retired.result c.requires.waiting.openings.queue c.requires.left c.requires.within c.retired.ensures in
    let last = (opening_within c.args.records.now c.retired.result (numbered 0 _ c.requires.records) l.opens).1 in
    let each = c.requires.waiting.rings.each in
    omega (arith, c.id-id.ensures)

pub tie-requires-clause-end : goal.tie-requires-clause-end
tie-requires-clause-end c =
    let l = left_at c.args.records.now c.args.self.now.openings c.args.count c.args.i c.retired.result c.requires.waiting.openings.queue c.requires.left c.requires.within c.retired.ensures in
    let within = opening_within c.args.records.now c.retired.result (numbered 0 _ c.requires.records) l.opens in
    let first = within.0 in
    let last = within.1 in
    let is = c.id-id.ensures in
    search (rules, first, last, is)

pub tie-requires-clause-after : goal.tie-requires-clause-after
tie-requires-clause-after c =
    let ds = c.args.records.now in
    let a = c.args.self.now.rings in
    let out = is_yet ds c.args.self.now.openings (drop c.args.i (retired c.args.count c.args.self.now.openings)) in
    let object = c.index-records-id.result.object in
    let next = ap (λ (v : Neighbours). v.next) c.at.ensures in
    let place = next_place (is_in ds out object) (next_of a object) (previous_of a object) c.loop-before.before (c.requires.waiting.rings.ring object) c.loop-before.invariant.place in
    let within = place_within ds out object (next_of a object c.loop-before.before) (numbered 0 _ c.requires.records) place in
    let each = c.requires.waiting.rings.each in
    omega (arith, next, within, each, c.put.ensures.near)

pub returns-clause-waiting : goal.returns-clause-waiting
returns-clause-waiting c =
    let ds = c.args.records.now in
    let q = c.args.self.now.openings in
    let a = c.args.self.now.rings in
    let left = drop (c.args.i + 1) (retired c.args.count q) in
    let e = c.retired.result in
    let d = c.index-records-id.result in
    let before = c.loop-before.before in
    let l = left_at ds q c.args.count c.args.i e c.requires.waiting.openings.queue c.requires.left c.requires.within c.retired.ensures in
    let its = is_to_open ds e d c.requires.records l.opens (c.index-records-id.is ∙ ap (λ n. get_or ds (n - 1) d) c.id-id.ensures) in
    let first = (opening_within ds e (numbered 0 _ c.requires.records) l.opens).0 in
    let turned = subst (λ (es : List Event). IsTurned (is_in ds (is_yet ds q es) d.object) (next_of a d.object) before c.id-id.result) l.at c.loop-before.invariant in
    let next : c.at.result.next ≡ next_of a d.object before = ap (λ (v : Neighbours). v.next) c.at.ensures in
    opened ds q a c.put.new.self c.tie.new.self left e d before c.id-id.result c.id-id.ensures (numbered 0 _ c.requires.records)
    (subst (λ (es : List Event). AreOpening ds es c.args.self.now) l.at c.requires.waiting) its l.gone l.apart
    (ends_back _ _ before c.id-id.result turned c.loop-before-test.false (omega (arith, c.id-id.ensures)) (rw c.id-id.ensures (in_no_ring ds q left e d d.object its)))
    (record { there = subst (λ n. at_place c.put.new.self d.object c.id-id.result ≡ record { next = n; previous = before }) next c.put.ensures.there; others = c.put.ensures.others })
    c.put.ensures.near c.put.ensures.known
    (subst (λ n. AreTied c.put.new.self c.tie.new.self d.object (record { next = n; previous = before }) (record { next = c.id-id.result; previous = c.id-id.result })) next c.tie.ensures.tied)
