-- Events that are there once, and their order after a sort.
use Rattle.std.proofs.Common.{◌≡◌, ℕ, ◌+◌, ◌<◌, ◌≤◌, Bool, true, false, eqb, nat_lt, ◌&&◌, ◌||◌, List, [], ◌∷◌, ◌++◌, length, get_or, Option, Some, None, refl, ap, sym, ◌∙◌, arith, zero, suc}
use Rattle.std.specs.List.{flat_map}
use Rattle.std.specs.List.Sorted.{IsPermutation, IsSortedBy}
use Rattle.std.specs.Cmp.{IsStrictWeakOrder}
use Rattle.std.proofs.lemmas.Bool.{eqb-true}
use Rattle.std.proofs.lemmas.Bool.Decides.{nat_tests}
use Rattle.std.proofs.lemmas.List.Elements.{recursion_from_All}
use Rattle.std.proofs.lemmas.List.Sorted.{sorted_far}
use Rattle.mon_downtime.specs.declared.downtime.Downtime.{Downtime}
use Rattle.mon_downtime.specs.declared.downtime.Fate.{Fate}
use Rattle.mon_downtime.specs.declared.downtime.Fate.TheVariants.{Pending, Active, Over}
use Rattle.mon_downtime.specs.declared.event.Event.{Event}
use Rattle.mon_downtime.specs.declared.event.EventKind.TheVariants.{Ends, Expires}
use Rattle.mon_downtime.specs.Records.{record_of, AreNumbered}
use Rattle.mon_downtime.specs.Events.{before, events, events_of, events_at, start_of, starts}
use Rattle.mon_downtime.specs.Listed.{events_in}
use Rattle.mon_downtime.specs.Order.{same, has, Ascending, AreOnce}
use Rattle.mon_downtime.proofs.EventLemmas.{before_neg_trans}
use Rattle.mon_downtime.proofs.SortedLemmas.{many, many_is, many_moved, one_if}
use Rattle.mon_downtime.proofs.ListedLemmas.{same_itself, events_of_other, flat_has, no_expiry_starts}
use Rattle.mon_downtime.proofs.RecordLemmas.{record_of_earlier}

-- ---- how often an event is there

abbrev pub often : Event → List Event → ℕ
often e es = many (λ x. same x e) es

pub has_often : (es : List Event) (e : Event) → has es e ≡ nat_lt 0 (often e es)
unfolding has
has_often [] e = refl
has_often (x ∷ es) e = by_test (same x e) (has_often es e)
  where
    by_test : (b : Bool) → has es e ≡ nat_lt 0 (often e es) → (b || has es e) ≡ nat_lt 0 (one_if b (often e es))
    by_test true h = grind (arith, nat_tests)
    by_test false h = h

pub never : (es : List Event) (e : Event) → has es e ≡ false → often e es ≡ 0
never es e h = let none : nat_lt 0 (often e es) ≡ false = sym (has_often es e) ∙ h in grind (arith, nat_tests)

pub often-append : (xs ys : List Event) (e : Event) → often e (xs ++ ys) ≡ often e xs + often e ys
often-append [] ys e = omega arith
often-append (x ∷ xs) ys e = by_test (same x e) (often-append xs ys e)
  where
    by_test : (b : Bool) → often e (xs ++ ys) ≡ often e xs + often e ys → one_if b (often e (xs ++ ys)) ≡ one_if b (often e xs) + often e ys
    by_test true h = omega arith
    by_test false h = h

pub has_moved : (xs ys : List Event) (e : Event) → IsPermutation xs ys → has ys e ≡ has xs e
has_moved xs ys e h = has_often ys e ∙ ap (λ n. nat_lt 0 n) (many_moved (λ x. same x e) xs ys h) ∙ sym (has_often xs e)

-- ---- the events of the records are there once

-- a record has one event, or two of other kinds
of_one : (ds : List Downtime) (d : Downtime) (e : Event) → often e (events_of ds d) ≤ 1
unfolding events_of
of_one ds d e = by_fate d.fate
  where
    alone : (a : Bool) → one_if a 0 ≤ 1
    alone true = omega arith
    alone false = omega arith

    not_both : (a b : Bool) → (a && b) ≡ false → one_if a (one_if b 0) ≤ 1
    not_both true true h = absurd (cc)
    not_both true false h = omega arith
    not_both false b h = alone b

    by_start : (o : Option ℕ) → often e (record { moment = d.plan.times.end_time; kind = Expires; id = d.id } ∷ starts d.id o) ≤ 1
    by_start None = alone (same (record { moment = d.plan.times.end_time; kind = Expires; id = d.id }) e)
    by_start (Some m) = not_both _ _ (no_expiry_starts d.plan.times.end_time m d.id e)

    by_fate : (f : Fate) → often e (events_at ds d f) ≤ 1
    by_fate Pending = by_start (start_of ds d)
    by_fate (Active since until) = alone (same (record { moment = until; kind = Ends; id = d.id }) e)
    by_fate Over = omega arith

-- events that each record has once, with its id, are once among all
of_all : (n : ℕ) (own : Option Downtime → List Event) (xs : List Downtime) (e : Event) → own None ≡ [] → ((d : Downtime) → eqb d.id e.id ≡ false → has (own (Some d)) e ≡ false) → ((d : Downtime) → often e (own (Some d)) ≤ 1) → AreNumbered n xs → often e (flat_map (λ d. own (Some d)) xs) ≤ 1
unfolding has
of_all n own [] e none other once w = omega arith
of_all n own (x ∷ xs) e none other once w = by_test (eqb x.id e.id) refl (of_all (n + 1) own xs e none other once w.1)
  where
    both : often e (flat_map (λ d. own (Some d)) (x ∷ xs)) ≡ often e (own (Some x)) + often e (flat_map (λ d. own (Some d)) xs)
    both = often-append (own (Some x)) (flat_map (λ d. own (Some d)) xs) e

    no_later : eqb x.id e.id ≡ true → has (own (record_of xs e.id)) e ≡ false
    no_later h =
        let next = w.0.id_next in
        let is = eqb-true x.id e.id h in
        ap (λ (o : Option Downtime). has (own o) e) (record_of_earlier (n + 1) xs e.id w.1 (omega arith)) ∙ ap (λ (es : List Event). has es e) none

    by_test : (b : Bool) → eqb x.id e.id ≡ b → often e (flat_map (λ d. own (Some d)) xs) ≤ 1 → often e (flat_map (λ d. own (Some d)) (x ∷ xs)) ≤ 1
    by_test true h rest_once =
        let rest = never (flat_map (λ d. own (Some d)) xs) e (flat_has (n + 1) own xs e none other w.1 ∙ no_later h) in
        let one = once x in
        let sum = both in
        omega arith
    by_test false h rest_once =
        let first = never (own (Some x)) e (other x h) in
        let sum = both in
        omega arith

pub all_once : (own : Option Downtime → List Event) (ds : List Downtime) → own None ≡ [] → ((d : Downtime) (e : Event) → eqb d.id e.id ≡ false → has (own (Some d)) e ≡ false) → ((d : Downtime) (e : Event) → often e (own (Some d)) ≤ 1) → AreNumbered 0 ds → AreOnce (flat_map (λ d. own (Some d)) ds)
all_once own ds none other once w = λ e. let n = many_is (λ x. same x e) (flat_map (λ d. own (Some d)) ds) in let one = of_all 0 own ds e none (λ d. other d e) (λ d. once d e) w in omega arith

pub events_are_once : (ds : List Downtime) → AreNumbered 0 ds → AreOnce (events ds)
unfolding events
events_are_once ds w = all_once (events_in ds) ds refl (events_of_other ds) (of_one ds) w

-- ---- after a sort

not_at : (es : List Event) (e : Event) (k : ℕ) (d : Event) → has es e ≡ false → k < length es → same (get_or es k d) e ≡ false
unfolding has
not_at [] e k d h l = absurd (omega arith)
not_at (x ∷ es) e zero d h l = first (same x e) (has es e) h
  where
    first : (a b : Bool) → (a || b) ≡ false → a ≡ false
    first true b h = absurd (cc)
    first false b h = refl
not_at (x ∷ es) e (suc k) d h l = not_at es e k d (rest (same x e) (has es e) h) (omega arith)
  where
    rest : (a b : Bool) → (a || b) ≡ false → b ≡ false
    rest true b h = absurd (cc)
    rest false b h = h

rising : (es : List Event) → ((i j : ℕ) (d : Event) → i ≤ j → j < length es → before (get_or es j d) (get_or es i d) ≡ false) → ((e : Event) → often e es ≤ 1) → Ascending es
rising [] sorted once = tt
rising (x ∷ es) sorted once = (recursion_from_All (λ y. before x y ≡ true) es (λ k d h. next x (get_or es k d) (sorted 0 (suc k) d (omega arith) (omega arith)) (not_at es x k d no_more h)), rising es (λ i j d h k. sorted (suc i) (suc j) d (omega arith) (omega arith)) (λ e. fewer (same x e) (often e es) (once e)))
  where
    next : (a b : Event) → before b a ≡ false → same b a ≡ false → before a b ≡ true
    next a b h k = grind (arith, nat_tests)

    fewer : (b : Bool) (n : ℕ) → one_if b n ≤ 1 → n ≤ 1
    fewer true n h = omega arith
    fewer false n h = h

    no_more : has es x ≡ false
    no_more =
        let first : often x (x ∷ es) ≡ 1 + often x es = ap (λ b. one_if b (often x es)) (same_itself x) in
        let one = once x in
        let none : often x es ≡ 0 = omega arith in
        has_often es x ∙ ap (λ n. nat_lt 0 n) none

order : IsStrictWeakOrder before
order = record { one_way = λ x y h. not_back x y h; chain = λ x y z h k. before_neg_trans z y x k h }
  where
    not_back : (x y : Event) → before x y ≡ true → before y x ≡ false
    not_back x y h = grind (arith, nat_tests)

pub ascending_sorted : (es sorted : List Event) → AreOnce es → IsPermutation es sorted → IsSortedBy before sorted → Ascending sorted
ascending_sorted es sorted once moved by = rising sorted (sorted_far before order sorted by) (λ e. let n = many_is (λ x. same x e) es in let m = many_moved (λ x. same x e) es sorted moved in let one = once e in omega arith)
