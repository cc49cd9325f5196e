use Rattle.std.proofs.Common.{◌≡◌, ◌<◌, List, [], ◌∷◌, ◌++◌, length, map, Option, Some, slice_get, refl, ap, sym, ◌∙◌, arith}
use Rattle.std.specs.List.{range_with_len}
use Rattle.std.proofs.lemmas.List.{map-append}
use Rattle.std.proofs.lemmas.Option.{slice_get_read}
use Rattle.mon_engine.specs.declared.ends.Owed.{Owed}
use Rattle.mon_engine.specs.declared.object.Object.{Object}
use Rattle.mon_engine.specs.Owed.{presumed_at, presumed_of}
use Rattle.mon_engine.proofs.ByClockLemmas.{range_more}
use Rattle.mon_engine.proofs.ends.presumed_owed.Goals as goal

pub loop-object-preserved : goal.loop-object-preserved
loop-object-preserved c =
    let inv = c.args.inventory.now in
    let os = c.args.objects.now in
    let n = c.loop-object.object in
    let x : Owed = c.in_ok-presumed_of.field-0 in
    let many = c.requires in
    let count = c.object_count-object-end.ensures.count in
    let low : n < length os = omega (arith, c.loop-object-test.true, many, count) in
    let there : slice_get os n ≡ Some c.index-objects-object.result = slice_get_read os (length os) n c.index-objects-object.result refl low c.index-objects-object.is in
    let of : x ≡ presumed_at inv os n = c.in_ok-presumed_of.ensures ∙ ap (λ (o : Option Object). presumed_of inv n (slice_get inv.objects n) o) (sym there) in
    c.in_ok-push.ensures.items ∙ ap (λ (xs : List Owed). xs ++ x ∷ []) c.loop-object.invariant ∙ ap (λ (y : Owed). map (presumed_at inv os) (range_with_len 0 n) ++ y ∷ []) of
    ∙ sym (ap (map (presumed_at inv os)) (range_more n) ∙ map-append (presumed_at inv os) (range_with_len 0 n) (n ∷ []))
