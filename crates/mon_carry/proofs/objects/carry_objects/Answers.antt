use Rattle.std.proofs.Common.{◌<◌, ◌∷◌, ◌++◌, [], List, length, map, slice_get, refl, ap, sym, ◌∙◌, arith, rules, append_assoc, length-append}
use Rattle.std.proofs.lemmas.List.{nil_from_length}
use Rattle.std.proofs.lemmas.Option.{slice_get_within, slice_get_read}
use Rattle.std.specs.Vec.Iter.{into_iter_items}
use Rattle.mon_inventory.specs.declared.records.ObjectSpec.{ObjectSpec}
use Rattle.mon_engine.specs.declared.object.Object.{Object}
use Rattle.mon_carry.specs.Placing.{with_known}
use Rattle.mon_carry.proofs.PlacingLemmas.{object_so_far, none_placed, all_placed, placed_more, next_known}
use Rattle.mon_carry.proofs.objects.carry_objects.Goals as goal

pub loop-known-init : goal.loop-known-init
loop-known-init c = record {
  parts = search rules;
  at = refl;
  carried = c.in_ok-carried.ensures.objects ∙ none_placed c.args.clock c.args.old.now.objects c.args.objects.items c.args.new.now.objects;
}

pub loop-known-preserved : goal.loop-known-preserved
loop-known-preserved c =
    let was = c.loop-known.invariant in
    let front = c.loop-known.yielded in
    let known = c.in-Some.known in
    let rest = into_iter_items c.next.new.self in
    let whole = ap (λ (xs : List Object). front ++ xs) (sym c.in-Some.ensures.steps.0) ∙ was.parts in
    let there = next_known front known rest c.args.objects.items c.loop-known.index whole was.at in
    let specs = c.args.new.now.objects in
    let value = c.objects-specs.ensures.value in
    let many = c.requires.many in
    let within = slice_get_within c.args.objects.items c.loop-known.index known there in
    let as_many = ap (λ (xs : List ObjectSpec). length xs) value in
    let below : c.loop-known.index < length c.objects-specs.result.now = omega arith in
    let stood =
    ap (λ (xs : List ObjectSpec). slice_get xs c.loop-known.index) (sym value)
    ∙ slice_get_read c.objects-specs.result.now _ c.loop-known.index c.index-specs-index.result refl below c.index-specs-index.is in
    record {
      parts = append_assoc front (known ∷ []) rest ∙ whole;
      at = omega (arith, length-append front (known ∷ []), was.at);
      carried =
          c.put.ensures
          ∙ ap (λ (os : List Object). with_known c.args.clock specs known os c.place_in-place.result) was.carried
          ∙ ap (with_known c.args.clock specs known (map (object_so_far c.args.clock c.args.old.now.objects c.args.objects.items c.loop-known.index) specs)) c.place_in-place.ensures.place
          ∙ placed_more c.args.clock c.args.old.now c.args.new.now c.args.objects.items c.loop-known.index c.index-specs-index.result known c.objects-specs.ensures.sound c.requires.sound stood there;
    }

pub returns-clause-carried : goal.returns-clause-carried
returns-clause-carried c =
    let was = c.loop-known.invariant in
    let none = nil_from_length (into_iter_items c.loop-known.known-iterator) (omega (arith, c.in-None.ensures.steps.0, c.loop-known.known-iterator.rest.ok)) in
    let whole = ap length was.parts in
    let long = length-append c.loop-known.yielded (into_iter_items c.loop-known.known-iterator) in
    let left = ap length none in
    was.carried ∙ all_placed c.args.clock c.args.old.now c.args.objects.items c.loop-known.index c.args.new.now.objects c.objects-specs.ensures.sound c.requires.many (let at = was.at in omega arith)
