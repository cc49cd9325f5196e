use Rattle.std.proofs.Common.{◌≡◌, ◌<◌, ◌≤◌, List, length, ap, arith, rules}
use Rattle.mon_inventory.specs.declared.records.ObjectSpec.{ObjectSpec}
use Rattle.mon_engine.specs.Saved.{IsOwedFit}
use Rattle.mon_engine.specs.Misfits.{OwedFits}
use Rattle.mon_engine.proofs.PartsLemmas.{each_more, owed_here, here_owed, one_lacks, owing_fits, all_owed, fit_owing, fit_numbers, fit_without}
use Rattle.mon_engine.proofs.parts.misfit_of_owed.Goals as goal

pub loop-place-preserved : goal.loop-place-preserved
loop-place-preserved c =
    let inv = c.args.inventory.now in
    let owed = c.args.owed.now in
    let place = c.loop-place.place in
    let test = c.loop-place-test.true in
    let shorter = c.min-shorter.ensures in
    let count = ap (λ (ss : List ObjectSpec). length ss) c.objects-count.ensures.value in
    let low : place < length inv.objects = omega (arith, test, shorter, count) in
    let within : place < length owed = omega (arith, test, shorter) in
    let fit : IsOwedFit inv c.args.before c.index-owed-place.result = search rules in
    each_more (OwedFits inv c.args.before owed) place (owed_here inv c.args.before owed place c.index-owed-place.result low within c.index-owed-place.is fit) c.loop-place.invariant

pub returns-then-not-owed_fits-clause-at : goal.returns-then-not-owed_fits-clause-at
returns-then-not-owed_fits-clause-at c = λ fits.
    (let inv = c.args.inventory.now in
    let owed = c.args.owed.now in
    let place = c.loop-place.place in
    let test = c.loop-place-test.true in
    let shorter = c.min-shorter.ensures in
    let count = ap (λ (ss : List ObjectSpec). length ss) c.objects-count.ensures.value in
    let low : place < length inv.objects = omega (arith, test, shorter, count) in
    let within : place < length owed = omega (arith, test, shorter) in
    let fit : IsOwedFit inv c.args.before c.index-owed-place.result = here_owed inv c.args.before owed place c.index-owed-place.result low within c.index-owed-place.is fits in
    search (rules, fit))

pub returns-then-not-owed_fits-clause-all : goal.returns-then-not-owed_fits-clause-all
returns-then-not-owed_fits-clause-all c = λ owing few without. returns-then-not-owed_fits-clause-at c (owing_fits c.args.inventory.now c.args.before c.args.owed.now owing few without c.loop-place.place)

pub returns-then-owed-count-clause-at : goal.returns-then-owed-count-clause-at
returns-then-owed-count-clause-at c = one_lacks c.args.inventory.now c.args.before c.args.owed.now c.min-shorter.result (let is = c.min-shorter.ensures in let count = ap (λ (ss : List ObjectSpec). length ss) c.objects-count.ensures.value in search (rules, is, count)) (let differ = c.if-owed-count.true in let count = ap (λ (ss : List ObjectSpec). length ss) c.objects-count.ensures.value in search (rules, differ, count))

pub returns-clause-all : goal.returns-clause-all
returns-clause-all c =
    let inv = c.args.inventory.now in
    let owed = c.args.owed.now in
    let count = ap (λ (ss : List ObjectSpec). length ss) c.objects-count.ensures.value in
    let long : length owed ≡ length inv.objects = search (rules, count) in
    let last : length owed ≤ c.loop-place.place = (let end = c.loop-place-test.false in let shorter = c.min-shorter.ensures in omega (arith, end, shorter, long, count)) in (
      fit_owing inv c.args.before owed c.loop-place.place long last c.loop-place.invariant,
      fit_numbers inv c.args.before owed c.loop-place.place long last c.loop-place.invariant,
      fit_without inv c.args.before owed c.loop-place.place long last c.loop-place.invariant,
    )

pub returns-clause-earlier : goal.returns-clause-earlier
returns-clause-earlier c = λ k some.
    (let inv = c.args.inventory.now in
    let owed = c.args.owed.now in
    let count = ap (λ (ss : List ObjectSpec). length ss) c.objects-count.ensures.value in
    let long : length owed ≡ length inv.objects = search (rules, count) in
    let last : length owed ≤ c.loop-place.place = (let end = c.loop-place-test.false in let shorter = c.min-shorter.ensures in omega (arith, end, shorter, long, count)) in
    all_owed inv c.args.before owed c.loop-place.place long last c.loop-place.invariant k)
