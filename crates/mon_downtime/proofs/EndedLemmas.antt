-- What the walks over the dependants have found and ended.
use Rattle.std.proofs.Common.{◌≡◌, ℕ, ◌+◌, ◌-◌, ◌<◌, ◌≤◌, Bool, true, false, eqb, cond, not, ◌&&◌, ◌||◌, List, [], ◌∷◌, ◌++◌, length, get_or, map, Some, refl, ap, sym, ◌∙◌, arith, zero, suc}
use Rattle.std.specs.List.{AllByRecursion, filter}
use Rattle.std.specs.List.Sorted.{IsPermutation, IsNonDecreasingBy}
use Rattle.std.proofs.lemmas.Bool.{eqb-true}
use Rattle.std.proofs.lemmas.Bool.Decides.{nat_tests}
use Rattle.std.proofs.lemmas.Option.{slice_get-get_or}
use Rattle.mon_downtime.specs.declared.downtime.Downtime.{Downtime}
use Rattle.mon_downtime.specs.declared.downtime.Fate.TheVariants.{Over}
use Rattle.mon_downtime.specs.Records.{record_of, with_fate, changed, AreNumbered, is_active}
use Rattle.mon_downtime.specs.Cancel.{trigger_of, leads_to, depends, cancelled_record, active_dependants}
use Rattle.mon_downtime.specs.Walk.{is_under, is_behind, is_left, GoesOn}
use Rattle.mon_downtime.proofs.RecordLemmas.{record_at}
use Rattle.mon_downtime.proofs.NextLemmas.{none_left, all_left}
use Rattle.mon_downtime.proofs.SortedLemmas.{AreRising, one_if, many, times, times_moved, times_pushed, same_rising, rising_from}

-- ---- counts

counts_same : (p q : Downtime → Bool) → ((d : Downtime) → p d ≡ q d) → (ds : List Downtime) → many p ds ≡ many q ds
counts_same p q h [] = refl
counts_same p q h (d ∷ ds) = ap (λ b. one_if b (many p ds)) (h d) ∙ ap (one_if (q d)) (counts_same p q h ds)

-- what passes one of two tests, never both
counts_split : (p e q : Downtime → Bool) → ((d : Downtime) → p d ≡ (e d || q d)) → ((d : Downtime) → e d ≡ true → q d ≡ false) → (ds : List Downtime) → many p ds ≡ many e ds + many q ds
counts_split p e q h apart [] = refl
counts_split p e q h apart (d ∷ ds) = ap (λ b. one_if b (many p ds)) (h d) ∙ by_tests (e d) (q d) (many p ds) (many e ds) (many q ds) (apart d) (counts_split p e q h apart ds)
  where
    by_tests : (a b : Bool) (n i j : ℕ) → (a ≡ true → b ≡ false) → n ≡ i + j → one_if (a || b) n ≡ one_if a i + one_if b j
    by_tests true true n i j k e = absurd (let no = k refl in cc)
    by_tests true false n i j k e = omega arith
    by_tests false true n i j k e = omega arith
    by_tests false false n i j k e = e

none_count : (n : ℕ) (ds : List Downtime) (id : ℕ) (g : Downtime → Bool) → AreNumbered n ds → id ≤ n → many (λ d. eqb d.id id && g d) ds ≡ 0
none_count n [] id g w h = refl
none_count n (d ∷ ds) id g w h =
    let next = w.0.id_next in
    let other : eqb d.id id ≡ false = grind (arith, nat_tests) in
    ap (λ b. one_if (b && g d) (many (λ x. eqb x.id id && g x) ds)) other ∙ none_count (n + 1) ds id g w.1 (omega arith)

-- the record of an id, where it passes a test
one_count : (n : ℕ) (ds : List Downtime) (id : ℕ) (x : Downtime) (g : Downtime → Bool) → AreNumbered n ds → record_of ds id ≡ Some x → many (λ d. eqb d.id id && g d) ds ≡ one_if (g x) 0
one_count n [] id x g w h = absurd (cc)
one_count n (d ∷ ds) id x g w h = by_test (λ k. one_count (n + 1) ds id x g w.1 k) (eqb d.id id) refl h
  where
    by_test : (record_of ds id ≡ Some x → many (λ d. eqb d.id id && g d) ds ≡ one_if (g x) 0) → (b : Bool) → eqb d.id id ≡ b → cond b (Some d) (record_of ds id) ≡ Some x → one_if (b && g d) (many (λ d. eqb d.id id && g d) ds) ≡ one_if (g x) 0
    by_test again true e k =
        let same : d ≡ x = cc in
        let next = w.0.id_next in
        let is = eqb-true d.id id e in
        let rest = none_count (n + 1) ds id g w.1 (omega arith) in
        ap (one_if (g d)) rest ∙ ap (λ (y : Downtime). one_if (g y) 0) same
    by_test again false e k = again k

-- ---- what is left

-- how many records left at x pass a test
abbrev pub left_count : List Downtime → (id x : ℕ) → (Downtime → Bool) → ℕ
left_count ds id x g = many (λ d. is_left ds id x d.id && g d) ds

-- at the next one less is left, which is counted where it passes the test
pub one_less : (ds : List Downtime) (id x next : ℕ) (d : Downtime) (g : Downtime → Bool) → AreNumbered 0 ds → record_of ds x ≡ Some d → GoesOn ds id x next → left_count ds id x g ≡ one_if (g d) 0 + left_count ds id next g
one_less ds id x next d g w there on =
    counts_split (λ y. is_left ds id x y.id && g y) (λ y. eqb y.id x && g y) (λ y. is_left ds id next y.id && g y)
    (λ y. ap (λ b. b && g y) (on.left y.id) ∙ shape (eqb y.id x) (is_left ds id next y.id) (g y))
    (λ y h. apart y.id (g y) (eqb y.id x) refl h) ds
    ∙ ap (λ n. n + left_count ds id next g) (one_count 0 ds x d g w there)
  where
    shape : (a b c : Bool) → ((a || b) && c) ≡ ((a && c) || (b && c))
    shape true true true = refl
    shape true true false = refl
    shape true false true = refl
    shape true false false = refl
    shape false b c = refl

    apart : (y : ℕ) (c : Bool) (b : Bool) → eqb y x ≡ b → (b && c) ≡ true → (is_left ds id next y && c) ≡ false
    apart y c false e h = absurd (cc)
    apart y c true e h = ap (λ z. is_left ds id next z && c) (eqb-true y x e) ∙ ap (λ b. b && c) on.once

pub nothing_left : (ds : List Downtime) (id : ℕ) (g : Downtime → Bool) → left_count ds id 0 g ≡ 0
nothing_left ds id g = each ds
  where
    each : (xs : List Downtime) → many (λ d. is_left ds id 0 d.id && g d) xs ≡ 0
    each [] = refl
    each (x ∷ xs) = ap (λ b. one_if (b && g x) (many (λ d. is_left ds id 0 d.id && g d) xs)) (none_left ds id x.id) ∙ each xs

pub record_exists : (ds : List Downtime) (x : ℕ) → AreNumbered 0 ds → 0 < x → x ≤ length ds → (d : Downtime) × (record_of ds x ≡ Some d)
record_exists [] x w some last = absurd (omega arith)
record_exists (d ∷ ds) x w some last = (get_or (d ∷ ds) (x - 1) d, record_at 0 (d ∷ ds) x (x - 1) w (omega arith) ∙ slice_get-get_or (d ∷ ds) (x - 1) d (omega arith))

-- the walk comes to an end
pub goes_less : (ds : List Downtime) (id x next : ℕ) → AreNumbered 0 ds → 0 < x → x ≤ length ds → GoesOn ds id x next → left_count ds id next (λ _. true) < left_count ds id x (λ _. true)
goes_less ds id x next w some last on =
    let there = record_exists ds x w some last in
    let less = one_less ds id x next there.0 (λ _. true) w there.1 on in
    omega arith

-- ---- the active ones

-- an active downtime with this id
abbrev pub counts_for : ℕ → Downtime → Bool
counts_for z d = is_active d.fate && eqb d.id z

-- each active dependant was found once, or is left
abbrev pub AreFound : List Downtime → (id x : ℕ) → List ℕ → Type 0
AreFound ds id x ids = (z : ℕ) → times z ids + left_count ds id x (counts_for z) ≡ many (λ d. depends ds id d.id && counts_for z d) ds

pub found_first : (ds : List Downtime) (id : ℕ) → AreNumbered 0 ds → 0 < id → id ≤ length ds → AreFound ds id id []
found_first ds id w l h = λ z. none_before _ _ (counts_same (λ d. is_left ds id id d.id && counts_for z d) (λ d. depends ds id d.id && counts_for z d) (λ d. ap (λ b. b && counts_for z d) (all_left ds id d.id w l h)) ds)
  where
    none_before : (m n : ℕ) → m ≡ n → 0 + m ≡ n
    none_before m n e = omega arith

-- one that is found is no more left
moved : (b : Bool) (t l n all : ℕ) → t + n ≡ all → n ≡ one_if b 0 + l → one_if b t + l ≡ all
moved true t l n all e h = omega arith
moved false t l n all e h = omega arith

pub found_more : (ds : List Downtime) (id x next : ℕ) (d : Downtime) (ids : List ℕ) → AreNumbered 0 ds → record_of ds x ≡ Some d → d.id ≡ x → is_active d.fate ≡ true → GoesOn ds id x next → AreFound ds id x ids → AreFound ds id next (ids ++ x ∷ [])
found_more ds id x next d ids w there is active on f = λ z.
    let counted : counts_for z d ≡ eqb x z = ap (λ b. b && eqb d.id z) active ∙ ap (λ y. eqb y z) is in
    ap (λ n. n + left_count ds id next (counts_for z)) (times_pushed z x ids)
    ∙ moved (eqb x z) (times z ids) (left_count ds id next (counts_for z)) (left_count ds id x (counts_for z)) _ (f z) (one_less ds id x next d (counts_for z) w there on ∙ ap (λ b. one_if b 0 + left_count ds id next (counts_for z)) counted)

pub found_as_before : (ds : List Downtime) (id x next : ℕ) (d : Downtime) (ids : List ℕ) → AreNumbered 0 ds → record_of ds x ≡ Some d → is_active d.fate ≡ false → GoesOn ds id x next → AreFound ds id x ids → AreFound ds id next ids
found_as_before ds id x next d ids w there idle on f = λ z.
    let counted : counts_for z d ≡ false = ap (λ b. b && eqb d.id z) idle in
    moved false (times z ids) (left_count ds id next (counts_for z)) (left_count ds id x (counts_for z)) _ (f z) (one_less ds id x next d (counts_for z) w there on ∙ ap (λ b. one_if b 0 + left_count ds id next (counts_for z)) counted)

times_among : (p : Downtime → Bool) (z : ℕ) (ds : List Downtime) → times z (map (λ d. d.id) (filter p ds)) ≡ many (λ d. p d && eqb d.id z) ds
times_among p z [] = refl
times_among p z (d ∷ ds) = by_test (p d) (times_among p z ds)
  where
    by_test : (b : Bool) → times z (map (λ d. d.id) (filter p ds)) ≡ many (λ d. p d && eqb d.id z) ds
        → times z (map (λ d. d.id) (cond b (d ∷ filter p ds) (filter p ds))) ≡ one_if (b && eqb d.id z) (many (λ d. p d && eqb d.id z) ds)
    by_test true h = ap (one_if (eqb d.id z)) h
    by_test false h = h

ids_high : (p : Downtime → Bool) (n : ℕ) (ds : List Downtime) → AreNumbered n ds → (m : ℕ) → m ≤ n + 1 → AllByRecursion (λ y. m ≤ y) (map (λ d. d.id) (filter p ds))
ids_high p n [] w m h = tt
ids_high p n (d ∷ ds) w m h = by_test (p d) (ids_high p (n + 1) ds w.1 m (omega arith))
  where
    by_test : (b : Bool) → AllByRecursion (λ y. m ≤ y) (map (λ d. d.id) (filter p ds)) → AllByRecursion (λ y. m ≤ y) (map (λ d. d.id) (cond b (d ∷ filter p ds) (filter p ds)))
    by_test true rest = ((let next = w.0.id_next in omega arith), rest)
    by_test false rest = rest

ids_rise : (p : Downtime → Bool) (n : ℕ) (ds : List Downtime) → AreNumbered n ds → AreRising (map (λ d. d.id) (filter p ds))
ids_rise p n [] w = tt
ids_rise p n (d ∷ ds) w = by_test (p d) (ids_rise p (n + 1) ds w.1)
  where
    by_test : (b : Bool) → AreRising (map (λ d. d.id) (filter p ds)) → AreRising (map (λ d. d.id) (cond b (d ∷ filter p ds) (filter p ds)))
    by_test true rest = (ids_high p (n + 1) ds w.1 d.id (let next = w.0.id_next in omega arith), rest)
    by_test false rest = rest

-- all that were found, in order
pub found_all : (ds : List Downtime) (id : ℕ) (ids sorted : List ℕ) → AreNumbered 0 ds → AreFound ds id 0 ids → IsPermutation ids sorted → IsNonDecreasingBy (λ x. x) sorted → sorted ≡ active_dependants ds id
unfolding active_dependants
found_all ds id ids sorted w f moved rises = same_rising sorted (map (λ d. d.id) (filter (λ d. depends ds id d.id && is_active d.fate) ds)) (rising_from sorted rises) (ids_rise (λ d. depends ds id d.id && is_active d.fate) 0 ds w)
    (λ z. (
    let perm = times_moved z ids sorted moved in
    let all = f z in
    let none = nothing_left ds id (counts_for z) in
    let among = times_among (λ d. depends ds id d.id && is_active d.fate) z ds in
    let turned = counts_same (λ d. (depends ds id d.id && is_active d.fate) && eqb d.id z) (λ d. depends ds id d.id && counts_for z d) (λ d. shape (depends ds id d.id) (is_active d.fate) (eqb d.id z)) ds in
    omega arith))
  where
    shape : (a b c : Bool) → ((a && b) && c) ≡ (a && (b && c))
    shape true b c = refl
    shape false b c = refl

-- ---- the ended ones

-- over, where it depends on id and is not left
abbrev pub ended_record : List Downtime → (id x : ℕ) → Downtime → Downtime
ended_record ds id x d = cond (depends ds id d.id && not (is_left ds id x d.id)) (record d { fate = Over }) d

pub ended_first : (ds : List Downtime) (id : ℕ) → AreNumbered 0 ds → 0 < id → id ≤ length ds → (xs : List Downtime) → xs ≡ map (ended_record ds id id) xs
ended_first ds id w l h = each
  where
    never : (b : Bool) → (b && not b) ≡ false
    never true = refl
    never false = refl

    none : (d : Downtime) → ended_record ds id id d ≡ d
    none d = ap (λ b. cond (depends ds id d.id && not b) (record d { fate = Over }) d) (all_left ds id d.id w l h) ∙ ap (λ b. cond b (record d { fate = Over }) d) (never (depends ds id d.id))

    each : (xs : List Downtime) → xs ≡ map (ended_record ds id id) xs
    each [] = refl
    each (x ∷ xs) = ap (λ ys. x ∷ ys) (each xs) ∙ ap (λ y. y ∷ map (ended_record ds id id) xs) (sym (none x))

pub ended_all : (ds : List Downtime) (id : ℕ) (xs : List Downtime) → map (ended_record ds id 0) xs ≡ map (cancelled_record ds id) xs
ended_all ds id = each
  where
    and_true : (b : Bool) → (b && true) ≡ b
    and_true true = refl
    and_true false = refl

    all : (d : Downtime) → ended_record ds id 0 d ≡ cancelled_record ds id d
    all d = ap (λ b. cond (depends ds id d.id && not b) (record d { fate = Over }) d) (none_left ds id d.id) ∙ ap (λ b. cond b (record d { fate = Over }) d) (and_true (depends ds id d.id))

    each : (xs : List Downtime) → map (ended_record ds id 0) xs ≡ map (cancelled_record ds id) xs
    each [] = refl
    each (x ∷ xs) = ap (λ y. y ∷ map (ended_record ds id 0) xs) (all x) ∙ ap (λ ys. cancelled_record ds id x ∷ ys) (each xs)

pub ended_more : (ds : List Downtime) (id x next : ℕ) → depends ds id x ≡ true → GoesOn ds id x next → (xs : List Downtime) → with_fate (map (ended_record ds id x) xs) x (λ _. Over) ≡ map (ended_record ds id next) xs
ended_more ds id x next on goes = each
  where
    unmoved : (d : Downtime) (b : Bool) → eqb d.id x ≡ false → changed x (λ _. Over) (cond b (record d { fate = Over }) d) ≡ cond b (record d { fate = Over }) d
    unmoved d true h = ap (λ b. cond b (record d { fate = Over }) (record d { fate = Over })) h
    unmoved d false h = ap (λ b. cond b (record d { fate = Over }) d) h

    by_test : (d : Downtime) (b : Bool) → eqb d.id x ≡ b → changed x (λ _. Over) (ended_record ds id x d) ≡ ended_record ds id next d
    by_test d true e =
        let is = eqb-true d.id x e in
        let here : depends ds id d.id ≡ true = ap (depends ds id) is ∙ on in
        let was : is_left ds id x d.id ≡ true = goes.left d.id ∙ ap (λ b. b || is_left ds id next d.id) e in
        let gone : is_left ds id next d.id ≡ false = ap (is_left ds id next) is ∙ goes.once in
        ap (changed x (λ _. Over)) (ap (λ b. cond (b && not (is_left ds id x d.id)) (record d { fate = Over }) d) here ∙ ap (λ b. cond (not b) (record d { fate = Over }) d) was)
        ∙ ap (λ b. cond b (record d { fate = Over }) d) e
        ∙ sym (ap (λ b. cond (b && not (is_left ds id next d.id)) (record d { fate = Over }) d) here ∙ ap (λ b. cond (not b) (record d { fate = Over }) d) gone)
    by_test d false e =
        let same : is_left ds id x d.id ≡ is_left ds id next d.id = goes.left d.id ∙ ap (λ b. b || is_left ds id next d.id) e in
        unmoved d (depends ds id d.id && not (is_left ds id x d.id)) e
        ∙ ap (λ b. cond (depends ds id d.id && not b) (record d { fate = Over }) d) same

    each : (xs : List Downtime) → map (changed x (λ _. Over)) (map (ended_record ds id x) xs) ≡ map (ended_record ds id next) xs
    each [] = refl
    each (y ∷ ys) = ap (λ z. z ∷ map (changed x (λ _. Over)) (map (ended_record ds id x) ys)) (by_test y (eqb y.id x) refl) ∙ ap (λ zs. ended_record ds id next y ∷ zs) (each ys)

-- ---- among records with other fates

-- as many records, with the same triggers
pub record AreLike (es ds : List Downtime) : Type 0 where
  pub long : length es ≡ length ds
  pub same : (y : ℕ) → trigger_of es y ≡ trigger_of ds y

leads_like : (n : ℕ) (es ds : List Downtime) (a y : ℕ) → AreLike es ds → leads_to n es a y ≡ leads_to n ds a y
unfolding leads_to
leads_like zero es ds a y k = refl
leads_like (suc n) es ds a y k = ap (λ z. eqb y a || leads_to n es a z) (k.same y) ∙ ap (λ b. eqb y a || b) (leads_like n es ds a (trigger_of ds y) k)

pub depends_like : (es ds : List Downtime) (a y : ℕ) → AreLike es ds → depends es a y ≡ depends ds a y
unfolding depends
depends_like es ds a y k = ap (λ n. leads_to n es a y) k.long ∙ leads_like (length ds) es ds a y k

under_like : (es ds : List Downtime) (p n y : ℕ) → AreLike es ds → is_under es p n y ≡ is_under ds p n y
unfolding is_under
under_like es ds p zero y k = refl
under_like es ds p (suc n) y k =
    ap (λ t. (eqb t p && depends es (suc n) y) || is_under es p n y) (k.same (suc n))
    ∙ ap (λ b. (eqb (trigger_of ds (suc n)) p && b) || is_under es p n y) (depends_like es ds (suc n) y k)
    ∙ ap (λ b. (eqb (trigger_of ds (suc n)) p && depends ds (suc n) y) || b) (under_like es ds p n y k)

behind_like : (n : ℕ) (es ds : List Downtime) (id x y : ℕ) → AreLike es ds → is_behind n es id x y ≡ is_behind n ds id x y
unfolding is_behind
behind_like zero es ds id x y k = refl
behind_like (suc n) es ds id x y k =
    ap (λ t. cond (eqb x id) false (is_under es t (x - 1) y || is_behind n es id t y)) (k.same x)
    ∙ ap (λ b. cond (eqb x id) false (b || is_behind n es id (trigger_of ds x) y)) (under_like es ds (trigger_of ds x) (x - 1) y k)
    ∙ ap (λ b. cond (eqb x id) false (is_under ds (trigger_of ds x) (x - 1) y || b)) (behind_like n es ds id (trigger_of ds x) y k)

left_like : (es ds : List Downtime) (id x y : ℕ) → AreLike es ds → is_left es id x y ≡ is_left ds id x y
unfolding is_left
left_like es ds id x y k =
    ap (λ b. not (eqb x 0) && (b || is_behind (length es) es id x y)) (depends_like es ds x y k)
    ∙ ap (λ n. not (eqb x 0) && (depends ds x y || is_behind n es id x y)) k.long
    ∙ ap (λ b. not (eqb x 0) && (depends ds x y || b)) (behind_like (length ds) es ds id x y k)

pub goes_like : (es ds : List Downtime) (id x next : ℕ) → AreLike es ds → GoesOn es id x next → GoesOn ds id x next
goes_like es ds id x next k g = record {
  within = (let long = k.long in let last = g.within in omega arith);
  one = λ h. sym (depends_like es ds id next k) ∙ g.one h;
  left = λ y. sym (left_like es ds id x y k) ∙ g.left y ∙ ap (λ b. eqb y x || b) (left_like es ds id next y k);
  once = sym (left_like es ds id next x k) ∙ g.once;
}
