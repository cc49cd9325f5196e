use Rattle.std.proofs.Common.{◌≡◌, ◌<◌, ◌≤◌, List, length, subst, sym, arith, rules}
use Rattle.mon_inventory.specs.declared.records.ObjectSpec.{ObjectSpec}
use Rattle.mon_engine.specs.Saved.{Fits}
use Rattle.mon_engine.specs.Misfits.{ObjectFits}
use Rattle.mon_engine.proofs.PartsLemmas.{each_more, read_fits, fits_read, lacks_one, states_fit, all_fit, fit_states, fit_said}
use Rattle.mon_engine.proofs.parts.misfit_of_objects.Goals as goal

pub loop-place-preserved : goal.loop-place-preserved
loop-place-preserved c =
    let before = c.args.before in
    let specs = c.objects-specs.result.now in
    let os = c.args.objects.now in
    let place = c.loop-place.place in
    let test = c.loop-place-test.true in
    let shorter = c.min-shorter.ensures in
    let low : place < length specs = omega (arith, test, shorter) in
    let within : place < length os = omega (arith, test, shorter) in
    let fit : Fits before c.index-specs-place.result c.index-objects-place.result = search rules in
    each_more (ObjectFits before specs os) place (read_fits (Fits before) specs os place c.index-specs-place.result c.index-objects-place.result low within c.index-specs-place.is c.index-objects-place.is fit) c.loop-place.invariant

pub returns-then-not-fits-clause-at : goal.returns-then-not-fits-clause-at
returns-then-not-fits-clause-at c = λ fits.
    (let before = c.args.before in
    let specs = c.objects-specs.result.now in
    let os = c.args.objects.now in
    let place = c.loop-place.place in
    let test = c.loop-place-test.true in
    let shorter = c.min-shorter.ensures in
    let low : place < length specs = omega (arith, test, shorter) in
    let within : place < length os = omega (arith, test, shorter) in
    let here : ObjectFits before specs os place = subst (λ (ss : List ObjectSpec). ObjectFits before ss os place) (sym c.objects-specs.ensures.value) fits in
    let fit : Fits before c.index-specs-place.result c.index-objects-place.result = fits_read (Fits before) specs os place c.index-specs-place.result c.index-objects-place.result low within c.index-specs-place.is c.index-objects-place.is here in
    search (rules, fit))

pub returns-then-not-fits-clause-all : goal.returns-then-not-fits-clause-all
returns-then-not-fits-clause-all c = λ states said. returns-then-not-fits-clause-at c (states_fit c.args.before _ c.args.objects.now states said c.loop-place.place)

pub returns-then-objects-specs-clause-at : goal.returns-then-objects-specs-clause-at
returns-then-objects-specs-clause-at c = λ fits.
    lacks_one (Fits c.args.before) c.objects-specs.result.now c.args.objects.now c.min-shorter.result (let is = c.min-shorter.ensures in search (rules, is)) (let differ = c.if-objects-specs.true in search (rules, differ))
    (subst (λ (ss : List ObjectSpec). ObjectFits c.args.before ss c.args.objects.now c.min-shorter.result) (sym c.objects-specs.ensures.value) fits)

pub returns-clause-all : goal.returns-clause-all
returns-clause-all c =
    let long : length c.args.objects.now ≡ length c.objects-specs.result.now = search rules in
    let last : length c.args.objects.now ≤ c.loop-place.place = (let end = c.loop-place-test.false in let shorter = c.min-shorter.ensures in omega (arith, end, shorter, long)) in (
      rw (← c.objects-specs.ensures.value) (fit_states c.args.before c.objects-specs.result.now c.args.objects.now c.loop-place.place long last c.loop-place.invariant),
      fit_said c.args.before c.objects-specs.result.now c.args.objects.now c.loop-place.place long last c.loop-place.invariant,
    )

pub returns-clause-earlier : goal.returns-clause-earlier
returns-clause-earlier c = λ k some.
    (let long : length c.args.objects.now ≡ length c.objects-specs.result.now = search rules in
    let last : length c.args.objects.now ≤ c.loop-place.place = (let end = c.loop-place-test.false in let shorter = c.min-shorter.ensures in omega (arith, end, shorter, long)) in
    subst (λ (ss : List ObjectSpec). ObjectFits c.args.before ss c.args.objects.now k) c.objects-specs.ensures.value
    (all_fit (Fits c.args.before) c.objects-specs.result.now c.args.objects.now c.loop-place.place long last c.loop-place.invariant k))
