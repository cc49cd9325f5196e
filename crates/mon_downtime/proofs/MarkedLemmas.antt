-- Which records are marked as ones on which only downtimes depend that are over.
use Rattle.std.proofs.Common.{◌≡◌, ℕ, ◌+◌, ◌-◌, ◌<◌, ◌≤◌, Bool, true, false, eqb, cond, ◌||◌, List, [], ◌∷◌, ◌++◌, length, get_or, set, map, Option, Some, None, refl, ap, sym, ◌∙◌, arith, zero, suc}
use Rattle.std.proofs.Common.{◌⊎◌, inl, inr}
use Rattle.std.specs.Option.{option_map}
use Rattle.std.proofs.lemmas.Bool.{eqb-true, cases_lt, or_cases}
use Rattle.std.proofs.lemmas.Bool.Decides.{nat_tests}
use Rattle.std.proofs.lemmas.List.{length-map, length-set, get_or-set_same, get_or-set_other, get_or_append_left, get_or_at, get_or_past, length-append}
use Rattle.mon_downtime.specs.declared.downtime.Downtime.{Downtime}
use Rattle.mon_downtime.specs.declared.downtime.Fate.{Fate}
use Rattle.mon_downtime.specs.declared.downtime.Fate.TheVariants.{Over}
use Rattle.mon_downtime.specs.declared.links.Link.{Link}
use Rattle.mon_downtime.specs.Records.{record_of, is_live, is_live_record, changed, with_fate, AreNumbered}
use Rattle.mon_downtime.specs.Cancel.{trigger_of, leads_to, depends, cancelled, cancelled_record}
use Rattle.mon_downtime.specs.Links.{AreLinked, AreAllOver, IsFree, unlinked, is_marked, AreMarked}
use Rattle.mon_downtime.proofs.RecordLemmas.{record_of_past, id_found}
use Rattle.mon_downtime.proofs.CancelLemmas.{trigger_falls, leads_enough, depends_none}
use Rattle.mon_downtime.proofs.DependLemmas.{steps}
use Rattle.mon_downtime.proofs.ListedLemmas.{record_changed, trigger_of_changed}
use Rattle.mon_downtime.proofs.EndedLemmas.{AreLike, depends_like}
use Rattle.mon_downtime.proofs.LinkLemmas.{More, more, record_before}

-- ---- another fate

pub like_changed : (ds : List Downtime) (id : ℕ) (g : Downtime → Fate) → AreLike (with_fate ds id g) ds
like_changed ds id g = record { long = length-map ds (changed id g); same = λ y. trigger_of_changed ds id y g }

-- what is over stays so
over_stays : (ds : List Downtime) (id y : ℕ) (fate : Fate) → (is_live ds id ≡ false → fate ≡ Over) → is_live ds y ≡ false → is_live (with_fate ds id (λ _. fate)) y ≡ false
over_stays ds id y fate stays h = ap is_live_record (record_changed ds id y (λ _. fate)) ∙ by_record (record_of ds y) refl
  where
    by_test : (d : Downtime) → record_of ds y ≡ Some d → (b : Bool) → eqb d.id id ≡ b → is_live_record (Some (cond b (record d { fate = fate }) d)) ≡ false
    by_test d e true k =
        let same : y ≡ id = sym (id_found ds y d e) ∙ eqb-true d.id id k in
        let over = stays (ap (is_live ds) (sym same) ∙ h) in
        ap (λ f. is_live_record (Some (record d { fate = f }))) over
    by_test d e false k = ap is_live_record (sym e) ∙ h

    by_record : (o : Option Downtime) → record_of ds y ≡ o → is_live_record (option_map (changed id (λ _. fate)) o) ≡ false
    by_record None e = refl
    by_record (Some d) e = by_test d e (eqb d.id id) refl

pub AreMarked-with_fate : (ds : List Downtime) (links : List Link) (id : ℕ) (fate : Fate) → (is_live ds id ≡ false → fate ≡ Over) → AreMarked ds links → AreMarked (with_fate ds id (λ _. fate)) links
AreMarked-with_fate ds links id fate stays w = λ x some marked y on. over_stays ds id y fate stays (w x some marked y (sym (depends_like (with_fate ds id (λ _. fate)) ds x y (like_changed ds id (λ _. fate))) ∙ on))

-- ---- one more record

-- what is live among records is so among more
pub live_among : (ds es : List Downtime) (y : ℕ) → is_live ds y ≡ true → is_live (ds ++ es) y ≡ true
live_among [] es y h = absurd (cc)
live_among (d ∷ ds) es y h = by_test (λ k. live_among ds es y k) (eqb d.id y) h
  where
    by_test : (is_live ds y ≡ true → is_live (ds ++ es) y ≡ true) → (b : Bool) → is_live_record (cond b (Some d) (record_of ds y)) ≡ true → is_live_record (cond b (Some d) (record_of (ds ++ es) y)) ≡ true
    by_test more true k = k
    by_test more false k = more k

leads_pushed : (n : ℕ) (ds : List Downtime) (r : Downtime) (x y : ℕ) → AreNumbered 0 ds → More ds r → y ≤ length ds → leads_to n (ds ++ r ∷ []) x y ≡ leads_to n ds x y
unfolding leads_to
leads_pushed zero ds r x y w m h = refl
leads_pushed (suc n) ds r x y w m h =
    let falls = trigger_falls ds y w in
    ap (λ t. eqb y x || leads_to n (ds ++ r ∷ []) x t) (m.same y h) ∙ ap (λ b. eqb y x || b) (leads_pushed n ds r x (trigger_of ds y) w m (omega arith))

depends_pushed : (ds : List Downtime) (r : Downtime) (x y : ℕ) → More ds r → 0 < x → y ≤ length ds → depends (ds ++ r ∷ []) x y ≡ depends ds x y
unfolding depends
depends_pushed ds r x y m l h =
    let long : length (ds ++ r ∷ []) ≡ suc (length ds) = (let e = m.long in omega arith) in
    ap (λ n. leads_to n (ds ++ r ∷ []) x y) long ∙ leads_pushed (suc (length ds)) ds r x y m.old m h ∙ leads_enough (length ds) ds x y m.old l h

-- a trigger that is live is under none that is marked
pub live_is_free : (ds : List Downtime) (r : Downtime) (links : List Link) → AreNumbered 0 (ds ++ r ∷ []) → ((r.plan.times.trigger_id ≡ 0 → ⊥) → is_live ds r.plan.times.trigger_id ≡ true) → AreMarked ds links → IsFree ds links r.plan.times.trigger_id
live_is_free ds r links w live k = λ x some marked on.
    (let none = depends_none ds x (more ds r w).old some in
    let it = live (λ e. (let z = ap (depends ds x) e in absurd (cc))) in
    let no = k x some marked r.plan.times.trigger_id on in
    absurd (cc))

-- the trigger of a new record is under none that is marked
AreMarked-pushed : (ds : List Downtime) (r : Downtime) (links added : List Link) → AreNumbered 0 (ds ++ r ∷ []) → IsFree ds links r.plan.times.trigger_id → AreMarked ds links
    → ((x : ℕ) → 0 < x → is_marked added x ≡ true → (is_marked links x ≡ true) × (x ≤ length ds)) → AreMarked (ds ++ r ∷ []) added
AreMarked-pushed ds r links added w free k old = λ x some marked y on. (let was = old x some marked in by_place x y some (k x some was.0) (free x some was.0) was.1 on (cases_lt (length ds) y))
  where
    m : More ds r
    m = more ds r w

    by_place : (x y : ℕ) → 0 < x → AreAllOver ds x → (depends ds x r.plan.times.trigger_id ≡ true → ⊥) → x ≤ length ds → depends (ds ++ r ∷ []) x y ≡ true → (length ds < y) ⊎ (y ≤ length ds) → is_live (ds ++ r ∷ []) y ≡ false
    by_place x y some over under last on (inr h) =
        let next = m.next in
        let other : eqb r.id y ≡ false = grind (arith, nat_tests) in
        ap is_live_record (record_before ds r y other) ∙ over y (sym (depends_pushed ds r x y m some h) ∙ on)
    by_place x y some over under last on (inl h) = by_end (cases_lt (length ds + 1) y)
      where
        by_end : (length ds + 1 < y) ⊎ (y ≤ length ds + 1) → is_live (ds ++ r ∷ []) y ≡ false
        by_end (inl past) = ap is_live_record (record_of_past 0 (ds ++ r ∷ []) y w (let long = m.long in omega arith))
        by_end (inr g) =
            let is : y ≡ length ds + 1 = omega arith in
            let its : trigger_of (ds ++ r ∷ []) y ≡ r.plan.times.trigger_id = ap (trigger_of (ds ++ r ∷ [])) is ∙ m.its in
            elim (or_cases (eqb y x) (depends (ds ++ r ∷ []) x (trigger_of (ds ++ r ∷ []) y)) (sym (steps (ds ++ r ∷ []) x y w some) ∙ on)) [
              | inl same ↦ absurd (let e = eqb-true y x same in omega arith)
              | inr up ↦ absurd (under (sym (depends_pushed ds r x r.plan.times.trigger_id m some m.trigger) ∙ ap (depends (ds ++ r ∷ []) x) (sym its) ∙ up))
            ]

-- links with others behind them that have no mark
marked_before : (links : List Link) (l : Link) (x : ℕ) → l.all_over ≡ false → 0 < x → is_marked (links ++ l ∷ []) x ≡ true → (is_marked links x ≡ true) × (x ≤ length links)
marked_before links l x free some h = by_place (cases_lt (x - 1) (length links))
  where
    by_place : (x - 1 < length links) ⊎ (length links ≤ x - 1) → (is_marked links x ≡ true) × (x ≤ length links)
    by_place (inl k) = (ap (λ (v : Link). v.all_over) (sym (get_or_append_left links (l ∷ []) unlinked (x - 1) k)) ∙ h, omega arith)
    by_place (inr k) = absurd (by_end (cases_lt (length links) (x - 1)))
      where
        by_end : (length links < x - 1) ⊎ (x - 1 ≤ length links) → ⊥
        by_end (inl g) = (let past = get_or_past (links ++ l ∷ []) (x - 1) unlinked (omega (arith, length-append links (l ∷ []))) in let no = ap (λ (v : Link). v.all_over) past in absurd (cc))
        by_end (inr g) = (let at = get_or_at links l [] unlinked (x - 1) (omega arith) in let no = ap (λ (v : Link). v.all_over) at in absurd (cc))

pub marked_alone : (ds : List Downtime) (r : Downtime) (links : List Link) (l : Link) → AreNumbered 0 (ds ++ r ∷ []) → IsFree ds links r.plan.times.trigger_id → AreLinked ds links → AreMarked ds links → l.all_over ≡ false → AreMarked (ds ++ r ∷ []) (links ++ l ∷ [])
marked_alone ds r links l w under linked k free = AreMarked-pushed ds r links (links ++ l ∷ []) w under k (λ x some h. (let was = marked_before links l x free some h in (was.0, (let each = linked.each in omega (arith, was.1)))))

-- ---- a mark is left as it was, or set

-- the marks stay where a link that is written has the mark of before
same_marks : (links : List Link) (i : ℕ) (l : Link) (x : ℕ) → i < length links → l.all_over ≡ (get_or links i unlinked).all_over → is_marked (set links i l) x ≡ is_marked links x
same_marks links i l x within same = by_place (eqb (x - 1) i) refl
  where
    by_place : (b : Bool) → eqb (x - 1) i ≡ b → is_marked (set links i l) x ≡ is_marked links x
    by_place true e =
        let is = eqb-true (x - 1) i e in
        ap (λ j. (get_or (set links i l) j unlinked).all_over) is ∙ ap (λ (v : Link). v.all_over) (get_or-set_same links i l unlinked within) ∙ same ∙ ap (λ j. (get_or links j unlinked).all_over) (sym is)
    by_place false e = ap (λ (v : Link). v.all_over) (get_or-set_other links i (x - 1) l unlinked (λ k. (let yes_is : eqb (x - 1) i ≡ true = grind (arith, nat_tests) in absurd (cc))))

pub marked_behind : (ds : List Downtime) (r : Downtime) (links : List Link) (i : ℕ) (at l : Link) → AreNumbered 0 (ds ++ r ∷ []) → IsFree ds links r.plan.times.trigger_id → AreLinked ds links → AreMarked ds links
    → i < length links → at.all_over ≡ (get_or links i unlinked).all_over → l.all_over ≡ false → AreMarked (ds ++ r ∷ []) (set links i at ++ l ∷ [])
marked_behind ds r links i at l w under linked k within same free =
    AreMarked-pushed ds r links (set links i at ++ l ∷ []) w under k
    (λ x some h. (
    let was = marked_before (set links i at) l x free some h in
    (sym (same_marks links i at x within same) ∙ was.0, (let each = linked.each in omega (arith, was.1, length-set links i at)))))

-- no mark comes with a link
pub marks_alone : (links : List Link) (l : Link) (x : ℕ) → l.all_over ≡ false → 0 < x → is_marked (links ++ l ∷ []) x ≡ true → is_marked links x ≡ true
marks_alone links l x free some h = (marked_before links l x free some h).0

pub marks_behind : (links : List Link) (i : ℕ) (at l : Link) (x : ℕ) → i < length links → at.all_over ≡ (get_or links i unlinked).all_over → l.all_over ≡ false → 0 < x → is_marked (set links i at ++ l ∷ []) x ≡ true → is_marked links x ≡ true
marks_behind links i at l x within same free some h = sym (same_marks links i at x within same) ∙ (marked_before (set links i at) l x free some h).0

-- ---- what a cancel leaves

pub all_over : (ds es : List Downtime) (id : ℕ) → AreLike es ds → es ≡ cancelled ds id → AreAllOver es id
unfolding cancelled
all_over ds es id like is = λ y on. ap (λ (xs : List Downtime). is_live xs y) is ∙ each ds y (sym (depends_like es ds id y like) ∙ on)
  where
    over : (x : Downtime) (y : ℕ) → x.id ≡ y → depends ds id y ≡ true → is_live_record (Some (cancelled_record ds id x)) ≡ false
    over x y same on = ap (λ b. is_live_record (Some (cond b (record x { fate = Over }) x))) (ap (depends ds id) same ∙ on)

    kept_id : (x : Downtime) (b : Bool) → (cond b (record x { fate = Over }) x).id ≡ x.id
    kept_id x true = refl
    kept_id x false = refl

    each : (xs : List Downtime) (y : ℕ) → depends ds id y ≡ true → is_live (map (cancelled_record ds id) xs) y ≡ false
    each [] y on = refl
    each (x ∷ xs) y on = ap (λ n. is_live_record (cond (eqb n y) (Some (cancelled_record ds id x)) (record_of (map (cancelled_record ds id) xs) y))) (kept_id x (depends ds id x.id)) ∙ by_test (each xs y on) (eqb x.id y) refl
      where
        by_test : is_live (map (cancelled_record ds id) xs) y ≡ false → (b : Bool) → eqb x.id y ≡ b → is_live_record (cond b (Some (cancelled_record ds id x)) (record_of (map (cancelled_record ds id) xs) y)) ≡ false
        by_test rest true e = over x y (eqb-true x.id y e) on
        by_test rest false e = rest
