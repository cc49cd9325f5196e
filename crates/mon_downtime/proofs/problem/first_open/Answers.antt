use Rattle.std.proofs.Common.{ap, arith, sym, ◌∙◌}
use Rattle.mon_downtime.specs.declared.rings.Neighbours.{Neighbours}
use Rattle.mon_downtime.specs.Queue.{queued}
use Rattle.mon_downtime.specs.Waiting.{is_unopened}
use Rattle.mon_downtime.proofs.RecordLemmas.{numbered}
use Rattle.mon_downtime.proofs.WalkLemmas.{IsWalked, walk_begins, walk_goes_on, walk_falls, walk_ends}
use Rattle.mon_downtime.proofs.problem.first_open.Goals as goal

pub loop-id-init : goal.loop-id-init
loop-id-init c =
    let ds = c.args.records.now in
    let begun = walk_begins ds (is_unopened ds (queued c.args.wait.now.openings)) c.args.wait.now.rings c.args.object c.args.clock (numbered 0 _ c.requires.records) c.requires.waiting.rings in
    rw (ap (λ (v : Neighbours). v.next) c.at-id.ensures) (record { place = begun.place; within = begun.within; least = begun.least })

pub loop-id-preserved : goal.loop-id-preserved
loop-id-preserved c =
    let w = c.loop-id.invariant in
    let ds = c.args.records.now in
    let out = is_unopened ds (queued c.args.wait.now.openings) in
    let at : IsWalked ds out c.args.object c.args.clock c.loop-id.id = record { place = w.place; within = w.within; least = w.least } in
    let on = walk_goes_on ds out c.args.wait.now.rings c.args.object c.args.clock c.loop-id.id (numbered 0 _ c.requires.records) c.requires.waiting.rings at (sym c.is_open.ensures ∙ c.if-not-is_open.true) in
    rw (ap (λ (v : Neighbours). v.next) c.at-id-in-loop-id.ensures) (record { place = on.place; within = on.within; least = on.least })

pub loop-id-smaller : goal.loop-id-smaller
loop-id-smaller c =
    let w = c.loop-id.invariant in
    let ds = c.args.records.now in
    let out = is_unopened ds (queued c.args.wait.now.openings) in
    let at : IsWalked ds out c.args.object c.args.clock c.loop-id.id = record { place = w.place; within = w.within; least = w.least } in
    rw (ap (λ (v : Neighbours). v.next) c.at-id-in-loop-id.ensures) (walk_falls ds out c.args.wait.now.rings c.args.object c.args.clock c.loop-id.id (numbered 0 _ c.requires.records) c.requires.waiting.rings at c.loop-id-test.true)

pub returns-after-loop-id : goal.returns-after-loop-id
returns-after-loop-id c =
    let w = c.loop-id.invariant in
    let ds = c.args.records.now in
    let out = is_unopened ds (queued c.args.wait.now.openings) in
    let at : IsWalked ds out c.args.object c.args.clock c.loop-id.id = record { place = w.place; within = w.within; least = w.least } in
    let ended = c.loop-id-test.false in
    walk_ends ds out c.args.object c.args.clock c.loop-id.id at c.requires.opened (λ some. absurd (omega (arith, ended)))

pub returns-else-not-is_open : goal.returns-else-not-is_open
returns-else-not-is_open c =
    let w = c.loop-id.invariant in
    let ds = c.args.records.now in
    let out = is_unopened ds (queued c.args.wait.now.openings) in
    let at : IsWalked ds out c.args.object c.args.clock c.loop-id.id = record { place = w.place; within = w.within; least = w.least } in
    walk_ends ds out c.args.object c.args.clock c.loop-id.id at c.requires.opened (λ some. sym c.is_open.ensures ∙ c.if-not-is_open.false)
