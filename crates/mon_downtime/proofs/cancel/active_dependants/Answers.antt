use Rattle.std.proofs.Common.{◌≡◌, ℕ, ◌<◌, true, Option, Some, unwrap_or, arith, sym, ◌∙◌, subst, ap}
use Rattle.std.specs.Prelude.{IfSome}
use Rattle.std.specs.Option.{option_map}
use Rattle.std.proofs.lemmas.List.Sorted.{IsNonDecreasingBy-from_sort}
use Rattle.mon_downtime.specs.Records.{record_of}
use Rattle.mon_downtime.specs.Walk.{walked, walked_record}
use Rattle.mon_downtime.proofs.RecordLemmas.{numbered, record_there, id_found}
use Rattle.mon_downtime.proofs.DependLemmas.{itself}
use Rattle.mon_downtime.proofs.EndedLemmas.{AreFound, left_count, goes_less, found_first, found_more, found_as_before, found_all}
use Rattle.mon_downtime.proofs.WalkedLemmas.{length-walked, AreNumbered-walked, record_walked, active_walked}
use Rattle.mon_downtime.proofs.cancel.active_dependants.Goals as goal
use Rattle.mon_downtime.proofs.cancel.active_dependants.Goals.{then-is_active+in_ok-push, else-is_active}

pub loop-next-init : goal.loop-next-init
loop-next-init c =
    let es = walked c.args.records.now c.args.links.now in
    let long = length-walked c.args.records.now c.args.links.now in
    record {
      within = c.requires.within;
      some = c.requires.id;
      one = λ h. itself es c.args.id;
      found = rw c.new-ids.ensures.items (found_first es c.args.id (AreNumbered-walked 0 _ c.args.links.now (numbered 0 _ c.requires.records)) c.requires.id (let within = c.requires.within in omega arith));
    }

pub loop-next-smaller : goal.loop-next-smaller
loop-next-smaller c =
    let es = walked c.args.records.now c.args.links.now in
    let long = length-walked c.args.records.now c.args.links.now in
    let i = c.loop-next.invariant in
    let at = c.in-Some.at in
    let here : unwrap_or c.loop-next.next 0 ≡ at = ap (λ (o : Option ℕ). unwrap_or o 0) c.in-Some.is in
    let some : 0 < at = subst (λ (o : Option ℕ). IfSome o (λ n. 0 < n)) c.in-Some.is i.some in
    let within = i.within in
    subst (λ (n : ℕ). left_count es c.args.id (unwrap_or c.next_dependant-next.result 0) (λ _. true) < left_count es c.args.id n (λ _. true)) (sym here)
    (goes_less es c.args.id at _ (AreNumbered-walked 0 _ c.args.links.now (numbered 0 _ c.requires.records)) some (omega (arith, within, here, long)) c.next_dependant-next.ensures.walk)

pub loop-next-preserved : goal.loop-next-preserved
loop-next-preserved c =
    let ds = c.args.records.now in
    let links = c.args.links.now in
    let es = walked ds links in
    let w = AreNumbered-walked 0 _ links (numbered 0 _ c.requires.records) in
    let i = c.loop-next.invariant in
    let at = c.in-Some.at in
    let here : unwrap_or c.loop-next.next 0 ≡ at = ap (λ (o : Option ℕ). unwrap_or o 0) c.in-Some.is in
    let some : 0 < at = subst (λ (o : Option ℕ). IfSome o (λ n. 0 < n)) c.in-Some.is i.some in
    let within = i.within in
    let found = subst (λ (n : ℕ). AreFound es c.args.id n c.loop-next.ids.items) here i.found in
    let d = c.index-records-at.result in
    let there = record_there ds at d c.requires.records (some, omega (arith, within, here)) c.index-records-at.is in
    let walks : record_of es at ≡ Some (walked_record links d) = record_walked ds links at ∙ ap (option_map (walked_record links)) there in
    let on = c.next_dependant-next.ensures.walk in
    let long = length-walked ds links in
    record {
      within = (let last = on.within in omega arith);
      some = c.next_dependant-next.ensures.some;
      one = on.one;
      found = elim c.if-is_active.branch [
        | then-is_active+in_ok-push w1 ↦ rw (w1.ids-is, w1.in_ok-push.ensures.items) (found_more es c.args.id at _ (walked_record links d) c.loop-next.ids.items w walks (id_found ds at d there) (sym c.is_active.ensures ∙ w1.if-is_active.true) on found)
        | else-is_active w1 ↦ rw w1.ids-is (found_as_before es c.args.id at _ (walked_record links d) c.loop-next.ids.items w walks (sym c.is_active.ensures ∙ w1.if-is_active.false) on found)
      ];
    }

pub returns : goal.returns
returns c =
    let ds = c.args.records.now in
    let links = c.args.links.now in
    let n = numbered 0 _ c.requires.records in
    let sorted = IsNonDecreasingBy-from_sort (λ x. x) c.sort_unstable.new.self.items c.sort_unstable.ensures.sorted in
    let ended = ap (λ (o : Option ℕ). unwrap_or o 0) c.in_default.is in
    found_all (walked ds links) c.args.id c.loop-next.ids.items c.sort_unstable.new.self.items (AreNumbered-walked 0 _ links n) (subst (λ x. AreFound (walked ds links) c.args.id x c.loop-next.ids.items) ended c.loop-next.invariant.found) c.sort_unstable.ensures.permutation sorted
    ∙ active_walked ds links c.args.id n c.requires.marked c.requires.id
