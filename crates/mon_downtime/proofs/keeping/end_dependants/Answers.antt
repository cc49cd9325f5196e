use Rattle.std.proofs.Common.{◌≡◌, ℕ, ◌<◌, true, Option, unwrap_or, refl, sym, subst, arith, ◌∙◌, ap, map, List}
use Rattle.std.specs.Prelude.{IfSome}
use Rattle.mon_downtime.specs.declared.downtime.Downtime.{Downtime}
use Rattle.mon_downtime.specs.declared.downtime.Fate.TheVariants.{Over}
use Rattle.mon_downtime.specs.Records.{with_fate}
use Rattle.mon_downtime.specs.Cancel.{trigger_of, depends}
use Rattle.mon_downtime.specs.Walk.{walked}
use Rattle.mon_downtime.proofs.RecordLemmas.{numbered, written_back}
use Rattle.mon_downtime.proofs.ListedLemmas.{trigger_of_changed}
use Rattle.mon_downtime.proofs.DependLemmas.{itself}
use Rattle.mon_downtime.proofs.EndedLemmas.{left_count, goes_less, goes_like, depends_like, ended_record, ended_first, ended_more, ended_all}
use Rattle.mon_downtime.proofs.WalkedLemmas.{length-walked, AreNumbered-walked, like_walked, cancelled_walked}
use Rattle.mon_downtime.proofs.MarkedLemmas.{all_over}
use Rattle.mon_downtime.proofs.keeping.end_dependants.Goals as goal

pub loop-next-init : goal.loop-next-init
loop-next-init c =
    let ds = c.args.records.now in
    let links = c.args.kept.now.links.items in
    let long = length-walked ds links in
    record {
      within = c.requires.there.1;
      some = (let first = c.requires.there.0 in omega arith);
      one = λ h. itself (walked ds links) c.args.id;
      done = ended_first (walked ds links) c.args.id (AreNumbered-walked 0 ds links (numbered 0 _ c.requires.kept.records)) (let first = c.requires.there.0 in omega arith) (let last = c.requires.there.1 in omega arith) ds;
      like = record { long = refl; same = λ y. refl };
      links = refl;
      kept = c.requires.kept;
    }

pub next_dependant-next-requires-clause-records : goal.next_dependant-next-requires-clause-records
next_dependant-next-requires-clause-records c = c.loop-next.invariant.kept.records

pub next_dependant-next-requires-clause-links : goal.next_dependant-next-requires-clause-links
next_dependant-next-requires-clause-links c = rw c.deref.ensures.value c.loop-next.invariant.kept.linked

pub next_dependant-next-requires-clause-within : goal.next_dependant-next-requires-clause-within
next_dependant-next-requires-clause-within c =
    let at = c.in-Some.at in
    let here : unwrap_or c.loop-next.next 0 ≡ at = ap (λ (o : Option ℕ). unwrap_or o 0) c.in-Some.is in
    let some : 0 < at = subst (λ (o : Option ℕ). IfSome o (λ n. 0 < n)) c.in-Some.is c.loop-next.invariant.some in
    let long = c.loop-next.invariant.like.long in
    let last = c.loop-next.invariant.within in
    omega (arith, here, long, last)

pub next_dependant-next-requires-clause-depends : goal.next_dependant-next-requires-clause-depends
next_dependant-next-requires-clause-depends c =
    let at = c.in-Some.at in
    let here : unwrap_or c.loop-next.next 0 ≡ at = ap (λ (o : Option ℕ). unwrap_or o 0) c.in-Some.is in
    let some : 0 < at = subst (λ (o : Option ℕ). IfSome o (λ n. 0 < n)) c.in-Some.is c.loop-next.invariant.some in
    let w = c.loop-next.invariant in
    let ds = c.args.records.now in
    let like = like_walked c.loop-next.records ds c.deref.result.now c.args.kept.now.links.items (c.deref.ensures.value ∙ w.links) w.like in
    depends_like (walked c.loop-next.records c.deref.result.now) (walked ds c.args.kept.now.links.items) c.args.id at like ∙ subst (λ (n : ℕ). depends (walked ds c.args.kept.now.links.items) c.args.id n ≡ true) here (w.one (omega (arith, here, some)))

pub end-requires-clause-kept : goal.end-requires-clause-kept
end-requires-clause-kept c = c.loop-next.invariant.kept

pub end-requires-clause-there : goal.end-requires-clause-there
end-requires-clause-there c =
    let at = c.in-Some.at in
    let here : unwrap_or c.loop-next.next 0 ≡ at = ap (λ (o : Option ℕ). unwrap_or o 0) c.in-Some.is in
    let some : 0 < at = subst (λ (o : Option ℕ). IfSome o (λ n. 0 < n)) c.in-Some.is c.loop-next.invariant.some in
    let long = c.loop-next.invariant.like.long in
    let last = c.loop-next.invariant.within in
    (omega arith, omega (arith, here, long, last))

pub loop-next-smaller : goal.loop-next-smaller
loop-next-smaller c =
    let at = c.in-Some.at in
    let here : unwrap_or c.loop-next.next 0 ≡ at = ap (λ (o : Option ℕ). unwrap_or o 0) c.in-Some.is in
    let some : 0 < at = subst (λ (o : Option ℕ). IfSome o (λ n. 0 < n)) c.in-Some.is c.loop-next.invariant.some in
    let w = c.loop-next.invariant in
    let ds = c.args.records.now in
    let links = c.args.kept.now.links.items in
    let like = like_walked c.loop-next.records ds c.deref.result.now links (c.deref.ensures.value ∙ w.links) w.like in
    let long = length-walked ds links in
    let last = w.within in
    subst (λ (n : ℕ). left_count (walked ds links) c.args.id (unwrap_or c.next_dependant-next.result 0) (λ _. true) < left_count (walked ds links) c.args.id n (λ _. true)) (sym here)
    (goes_less (walked ds links) c.args.id at _ (AreNumbered-walked 0 ds links (numbered 0 _ c.requires.kept.records)) some (omega (arith, here, last, long))
    (goes_like (walked c.loop-next.records c.deref.result.now) (walked ds links) c.args.id at _ like c.next_dependant-next.ensures.walk))

pub loop-next-preserved : goal.loop-next-preserved
loop-next-preserved c =
    let at = c.in-Some.at in
    let here : unwrap_or c.loop-next.next 0 ≡ at = ap (λ (o : Option ℕ). unwrap_or o 0) c.in-Some.is in
    let some : 0 < at = subst (λ (o : Option ℕ). IfSome o (λ n. 0 < n)) c.in-Some.is c.loop-next.invariant.some in
    let w = c.loop-next.invariant in
    let ds = c.args.records.now in
    let links = c.args.kept.now.links.items in
    let like = like_walked c.loop-next.records ds c.deref.result.now links (c.deref.ensures.value ∙ w.links) w.like in
    let on = goes_like (walked c.loop-next.records c.deref.result.now) (walked ds links) c.args.id at _ like c.next_dependant-next.ensures.walk in
    let long = length-walked ds links in
    let changed = c.end.ensures.ended in
    record {
      within = (let last = on.within in omega arith);
      some = c.next_dependant-next.ensures.some;
      one = on.one;
      done = changed ∙ ap (λ (es : List Downtime). with_fate es at (λ _. Over)) (w.done ∙ ap (λ (n : ℕ). map (ended_record (walked ds links) c.args.id n) ds) here)
          ∙ ended_more (walked ds links) c.args.id at _ (subst (λ (n : ℕ). depends (walked ds links) c.args.id n ≡ true) here (w.one (omega (arith, here, some)))) on ds;
      like = record {
        long = c.end.auto.records ∙ w.like.long;
        same = λ y. ap (λ (es : List Downtime). trigger_of es y) changed ∙ trigger_of_changed c.loop-next.records at y (λ _. Over) ∙ w.like.same y;
      };
      links = c.end.ensures.links ∙ w.links;
      kept = c.end.ensures.kept;
    }

pub returns-clause-ended : goal.returns-clause-ended
returns-clause-ended c =
    let ended = ap (λ (o : Option ℕ). unwrap_or o 0) c.in_default.is in
    let ds = c.args.records.now in
    let links = c.args.kept.now.links.items in
    let first : 0 < c.args.id = (let there = c.requires.there.0 in omega arith) in
    c.loop-next.invariant.done ∙ ap (λ n. map (ended_record (walked ds links) c.args.id n) ds) ended ∙ ended_all (walked ds links) c.args.id ds
    ∙ cancelled_walked ds links c.args.id (numbered 0 _ c.requires.kept.records) c.requires.kept.marked first

pub returns-clause-marked : goal.returns-clause-marked
returns-clause-marked c = rw (written_back _ _ _ (c.mark_all_over.auto.links ∙ c.deref_mut.ensures.len)) c.mark_all_over.ensures.mark

pub returns-clause-kept : goal.returns-clause-kept
returns-clause-kept c =
    let w = c.loop-next.invariant.kept in
    let ds = c.loop-next.records in
    let back = written_back c.loop-next.kept.links.len c.mark_all_over.new.links c.loop-next.kept.links.items (c.mark_all_over.auto.links ∙ c.deref_mut.ensures.len) in
    record {
      records = w.records;
      listed = w.listed;
      linked = rw back (c.mark_all_over.ensures.links ds (rw c.deref_mut.ensures.value w.linked));
      marked = rw back (c.mark_all_over.ensures.marked ds (all_over c.args.records.now ds c.args.id c.loop-next.invariant.like (returns-clause-ended c)) (rw c.deref_mut.ensures.value w.marked));
      counted = w.counted;
      waiting = w.waiting;
    }
