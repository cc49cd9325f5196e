use Rattle.std.proofs.Common.{◌∙◌, map, ap, sym, subst, arith}
use Rattle.std.proofs.lemmas.List.{take_all}
use Rattle.mon_engine.specs.Objects.{initial_object}
use Rattle.mon_engine.specs.Sound.{AreObjectStates}
use Rattle.mon_engine.proofs.ListLemmas.{mapped_more}
use Rattle.mon_engine.proofs.StateLemmas.{initial_states}
use Rattle.mon_engine.proofs.objects.initial_objects.Goals as goal

pub loop-spec-preserved : goal.loop-spec-preserved
loop-spec-preserved c =
    mapped_more initial_object c.objects-spec-items.result.now c.loop-spec.spec-index c.spec-item.result _ _ c.initial_object.result c.loop-spec-test.true c.spec-item.is c.loop-spec.invariant c.initial_object.ensures c.in_ok-push.ensures.items

pub returns-clause-states : goal.returns-clause-states
returns-clause-states c =
    let xs = c.objects-spec-items.result.now in
    let all = take_all c.loop-spec.spec-index xs (omega arith) in
    let is = c.loop-spec.invariant ∙ ap (map initial_object) all ∙ ap (map initial_object) c.objects-spec-items.ensures.value in
    subst (AreObjectStates 0 c.args.inventory.now.objects) (sym is) (initial_states c.args.inventory.now c.objects-spec-items.ensures.sound)
