-- The records as the walk goes over them: what it leaves out is over.
use Rattle.std.proofs.Common.{◌≡◌, ℕ, ◌+◌, ◌-◌, ◌<◌, ◌≤◌, Bool, true, false, eqb, cond, ◌&&◌, List, [], ◌∷◌, length, get_or, map, Option, Some, None, refl, ap, sym, ◌∙◌, subst, arith, zero, suc, eq-eqb}
use Rattle.std.proofs.Common.{◌⊎◌, inl, inr}
use Rattle.std.specs.Prelude.{All}
use Rattle.std.specs.Option.{option_map}
use Rattle.std.specs.List.{AllByRecursion, filter}
use Rattle.std.proofs.Math.Bool.{and-false}
use Rattle.std.proofs.lemmas.Bool.{eqb-true, or_cases, or_left, or_right}
use Rattle.std.proofs.lemmas.List.{length-map}
use Rattle.std.proofs.lemmas.List.Elements.{recursion_from_All}
use Rattle.mon_downtime.specs.declared.downtime.Downtime.{Downtime}
use Rattle.mon_downtime.specs.declared.downtime.Fate.{Fate}
use Rattle.mon_downtime.specs.declared.downtime.Fate.TheVariants.{Pending, Active, Over}
use Rattle.mon_downtime.specs.declared.links.Link.{Link}
use Rattle.mon_downtime.specs.Records.{record_of, is_active, is_over, is_live_record, AreNumbered}
use Rattle.mon_downtime.specs.Cancel.{trigger_of, trigger_in, depends, cancelled, cancelled_record, active_dependants}
use Rattle.mon_downtime.specs.Links.{IsLatest, AreLinked, is_marked, AreMarked}
use Rattle.mon_downtime.specs.Walk.{trigger_walked, walked_record, walked}
use Rattle.mon_downtime.proofs.WorkLemmas.{all_found}
use Rattle.mon_downtime.proofs.CancelLemmas.{trigger_falls}
use Rattle.mon_downtime.proofs.DependLemmas.{none_on_zero, steps, child, above, through}
use Rattle.mon_downtime.proofs.EndedLemmas.{AreLike}
use Rattle.mon_downtime.proofs.HungLemmas.{latest_link, earlier_link}

-- ---- the same records, but for some triggers

pub length-walked : (ds : List Downtime) (links : List Link) → length (walked ds links) ≡ length ds
unfolding walked
length-walked ds links = length-map ds (walked_record links)

pub AreNumbered-walked : (n : ℕ) (ds : List Downtime) (links : List Link) → AreNumbered n ds → AreNumbered n (walked ds links)
unfolding walked
AreNumbered-walked n [] links w = tt
AreNumbered-walked n (d ∷ ds) links w = (record { id_next = w.0.id_next; trigger_earlier = lower (is_marked links d.plan.times.trigger_id) }, AreNumbered-walked (n + 1) ds links w.1)
  where
    lower : (b : Bool) → cond b 0 d.plan.times.trigger_id ≤ n
    lower true = omega arith
    lower false = w.0.trigger_earlier

pub record_walked : (ds : List Downtime) (links : List Link) (y : ℕ) → record_of (walked ds links) y ≡ option_map (walked_record links) (record_of ds y)
unfolding walked
record_walked [] links y = refl
record_walked (d ∷ ds) links y = by_test (eqb d.id y) (record_walked ds links y)
  where
    by_test : (b : Bool) → record_of (map (walked_record links) ds) y ≡ option_map (walked_record links) (record_of ds y) → cond b (Some (walked_record links d)) (record_of (map (walked_record links) ds) y) ≡ option_map (walked_record links) (cond b (Some d) (record_of ds y))
    by_test true h = refl
    by_test false h = h

pub trigger_is : (ds : List Downtime) (links : List Link) (y : ℕ) → trigger_of (walked ds links) y ≡ trigger_walked links (trigger_of ds y)
trigger_is ds links y = ap trigger_in (record_walked ds links y) ∙ by_record (record_of ds y)
  where
    none : (b : Bool) → ◌≡◌ {A = ℕ} 0 (cond b 0 0)
    none true = refl
    none false = refl

    by_record : (o : Option Downtime) → trigger_in (option_map (walked_record links) o) ≡ trigger_walked links (trigger_in o)
    by_record None = none (is_marked links 0)
    by_record (Some d) = refl

-- with the same triggers and links the walk goes over the same records
pub like_walked : (es ds : List Downtime) (now links : List Link) → now ≡ links → AreLike es ds → AreLike (walked es now) (walked ds links)
like_walked es ds now links same k = subst (λ x. AreLike (walked es x) (walked ds links)) (sym same) (record {
  long = length-walked es links ∙ k.long ∙ sym (length-walked ds links);
  same = λ y. trigger_is es links y ∙ ap (trigger_walked links) (k.same y) ∙ sym (trigger_is ds links y);
})

-- a trigger that is left is the record's own, and is not marked
pub own_trigger : (ds : List Downtime) (links : List Link) (y t : ℕ) → 0 < t → trigger_of (walked ds links) y ≡ t → (trigger_of ds y ≡ t) × (is_marked links t ≡ false)
own_trigger ds links y t some h = by_mark (is_marked links (trigger_of ds y)) refl (sym (trigger_is ds links y) ∙ h)
  where
    by_mark : (b : Bool) → is_marked links (trigger_of ds y) ≡ b → cond b 0 (trigger_of ds y) ≡ t → (trigger_of ds y ≡ t) × (is_marked links t ≡ false)
    by_mark true e k = absurd (omega arith)
    by_mark false e k = (k, ap (is_marked links) (sym k) ∙ e)

-- ---- the links of them

none_walked : (ds : List Downtime) (links : List Link) (t y : ℕ) → 0 < t → (trigger_of ds y ≡ t → is_marked links t ≡ false → ⊥) → eqb (trigger_of (walked ds links) y) t ≡ false
none_walked ds links t y some other = by_test (eqb (trigger_of (walked ds links) y) t) refl
  where
    by_test : (b : Bool) → eqb (trigger_of (walked ds links) y) t ≡ b → b ≡ false
    by_test true e = absurd (let own = own_trigger ds links y t some (eqb-true (trigger_of (walked ds links) y) t e) in other own.0 own.1)
    by_test false e = refl

latest_walked : (ds : List Downtime) (links : List Link) (t k x : ℕ) → 0 < t → is_marked links t ≡ false → IsLatest ds t k x → IsLatest (walked ds links) t k x
latest_walked ds links t k x some free w = record {
  within = w.within;
  one = λ h. trigger_is ds links x ∙ ap (trigger_walked links) (w.one h) ∙ ap (λ b. cond b 0 t) free;
  none_after = λ y h l. none_walked ds links t y some (λ same m. (let no = w.none_after y h l in let yes_is = eq-eqb (trigger_of ds y) t same in absurd (cc)));
}

pub latest_free : (ds : List Downtime) (links : List Link) (id : ℕ) (l : Link) → 1 ≤ id → id ≤ length links → is_marked links id ≡ false → AreLinked ds links → IsLatest (walked ds links) id (length ds) (get_or links (id - 1) l).latest
latest_free ds links id l first last free w = latest_walked ds links id (length ds) (get_or links (id - 1) l).latest first free (latest_link ds links id l w first (let each = w.each in omega arith))

-- the walk goes to none that a marked one triggers
pub latest_marked : (ds : List Downtime) (links : List Link) (id k : ℕ) → 1 ≤ id → is_marked links id ≡ true → IsLatest (walked ds links) id k 0
latest_marked ds links id k first marked = record {
  within = omega arith;
  one = λ h. absurd (omega arith);
  none_after = λ y h l. none_walked ds links id y first (λ same m. absurd (cc));
}

pub earlier_walked : (ds : List Downtime) (links : List Link) (x : ℕ) (l : Link) → AreLinked ds links → 0 < x → x ≤ length ds → 0 < trigger_of (walked ds links) x → IsLatest (walked ds links) (trigger_of (walked ds links) x) (x - 1) (get_or links (x - 1) l).earlier
earlier_walked ds links x l w some last upper =
    let own = own_trigger ds links x (trigger_of (walked ds links) x) upper refl in
    latest_walked ds links (trigger_of (walked ds links) x) (x - 1) (get_or links (x - 1) l).earlier upper own.1
    (earlier_link ds links (trigger_of (walked ds links) x) x l w upper some last own.0)

-- ---- what is left out

on_by : (n : ℕ) (ds : List Downtime) (links : List Link) (a y : ℕ) → AreNumbered 0 ds → 0 < a → y ≤ n → depends (walked ds links) a y ≡ true → depends ds a y ≡ true
on_by zero ds links a y w l h d = absurd (none_on_zero (walked ds links) a y (AreNumbered-walked 0 ds links w) l h d)
on_by (suc m) ds links a y w l h d =
    let n = AreNumbered-walked 0 ds links w in
    elim (or_cases (eqb y a) (depends (walked ds links) a (trigger_of (walked ds links) y)) (sym (steps (walked ds links) a y n l) ∙ d)) [
      | inl same ↦ steps ds a y w l ∙ or_left (eqb y a) (depends ds a (trigger_of ds y)) same
      | inr on ↦ (
          let least = above (walked ds links) a (trigger_of (walked ds links) y) n l on in
          let own = own_trigger ds links y (trigger_of (walked ds links) y) (omega arith) refl in
          let t = trigger_falls (walked ds links) y n in
          steps ds a y w l ∙ or_right (eqb y a) (depends ds a (trigger_of ds y)) (ap (depends ds a) own.0 ∙ on_by m ds links a (trigger_of (walked ds links) y) w l (omega arith) on))
    ]

-- what depends on a is walked over, or depends on one that is marked
record IsBelow (ds : List Downtime) (links : List Link) (y : ℕ) : Type 0 where
  one : ℕ
  some : 0 < one
  marked : is_marked links one ≡ true
  on : depends ds one y ≡ true

below_by : (n : ℕ) (ds : List Downtime) (links : List Link) (a y : ℕ) → AreNumbered 0 ds → 0 < a → y ≤ n → depends ds a y ≡ true → (depends (walked ds links) a y ≡ true) ⊎ IsBelow ds links y
below_by zero ds links a y w l h d = absurd (none_on_zero ds a y w l h d)
below_by (suc n) ds links a y w l h d = elim (or_cases (eqb y a) (depends ds a (trigger_of ds y)) (sym (steps ds a y w l) ∙ d)) [
  | inl same ↦ inl (steps (walked ds links) a y (AreNumbered-walked 0 ds links w) l ∙ or_left (eqb y a) (depends (walked ds links) a (trigger_of (walked ds links) y)) same)
  | inr on ↦ (
      let least = above ds a (trigger_of ds y) w l on in
      let t = trigger_falls ds y w in
      by_mark (omega arith) (is_marked links (trigger_of ds y)) refl (below_by n ds links a (trigger_of ds y) w l (omega arith) on))
]
  where
    by_mark : 0 < trigger_of ds y → (b : Bool) → is_marked links (trigger_of ds y) ≡ b → (depends (walked ds links) a (trigger_of ds y) ≡ true) ⊎ IsBelow ds links (trigger_of ds y) → (depends (walked ds links) a y ≡ true) ⊎ IsBelow ds links y
    by_mark some true e up = inr (record { one = trigger_of ds y; some = some; marked = e; on = child ds (trigger_of ds y) y w some refl })
    by_mark some false e (inl on) =
        let is : trigger_of (walked ds links) y ≡ trigger_of ds y = trigger_is ds links y ∙ ap (λ b. cond b 0 (trigger_of ds y)) e in
        inl (steps (walked ds links) a y (AreNumbered-walked 0 ds links w) l ∙ or_right (eqb y a) (depends (walked ds links) a (trigger_of (walked ds links) y)) (ap (depends (walked ds links) a) is ∙ on))
    by_mark some false e (inr m) = inr (record { one = m.one; some = m.some; marked = m.marked; on = through ds m.one (trigger_of ds y) y w m.some some m.on (child ds (trigger_of ds y) y w some refl) })

-- a record on which the walk and the triggers agree, or which is over
abbrev IsAgreed : List Downtime → List Link → ℕ → Downtime → Type 0
IsAgreed ds links a d = (depends (walked ds links) a d.id ≡ depends ds a d.id) ⊎ (d.fate ≡ Over)

agreed : (ds : List Downtime) (links : List Link) (a : ℕ) (d : Downtime) → AreNumbered 0 ds → AreMarked ds links → 0 < a → record_of ds d.id ≡ Some d → IsAgreed ds links a d
agreed ds links a d w marked l found = by_walk (depends (walked ds links) a d.id) refl (depends ds a d.id) refl
  where
    over : (f : Fate) → d.fate ≡ f → is_live_record (Some d) ≡ false → d.fate ≡ Over
    over Pending e h = absurd (let k = ap (λ f. cond (is_over f) false true) e in cc)
    over (Active since until) e h = absurd (let k = ap (λ f. cond (is_over f) false true) e in cc)
    over Over e h = e

    by_walk : (b : Bool) → depends (walked ds links) a d.id ≡ b → (c : Bool) → depends ds a d.id ≡ c → IsAgreed ds links a d
    by_walk true e true k = inl (e ∙ sym k)
    by_walk true e false k = absurd (let no = on_by d.id ds links a d.id w l (omega arith) e in cc)
    by_walk false e false k = inl (e ∙ sym k)
    by_walk false e true k = elim (below_by d.id ds links a d.id w l (omega arith) k) [
      | inl on ↦ absurd (cc)
      | inr m ↦ inr (over d.fate refl (ap is_live_record (sym found) ∙ marked m.one m.some m.marked d.id m.on))
    ]

all_agreed : (ds : List Downtime) (links : List Link) (a : ℕ) → AreNumbered 0 ds → AreMarked ds links → 0 < a → All (IsAgreed ds links a) ds
all_agreed ds links a w marked l = λ k d h. agreed ds links a (get_or ds k d) w marked l (all_found ds w k d h)

-- ---- so it finds and ends the same

pub active_walked : (ds : List Downtime) (links : List Link) (a : ℕ) → AreNumbered 0 ds → AreMarked ds links → 0 < a → active_dependants (walked ds links) a ≡ active_dependants ds a
unfolding active_dependants walked
active_walked ds links a w marked l = each ds (recursion_from_All (IsAgreed ds links a) ds (all_agreed ds links a w marked l))
  where
    joined : (x : Downtime) → IsAgreed ds links a x → (depends (walked ds links) a x.id && is_active x.fate) ≡ (depends ds a x.id && is_active x.fate)
    joined x (inl same) = ap (λ b. b && is_active x.fate) same
    joined x (inr over) = ap (λ f. depends (walked ds links) a x.id && is_active f) over ∙ and-false (depends (walked ds links) a x.id) ∙ sym (ap (λ f. depends ds a x.id && is_active f) over ∙ and-false (depends ds a x.id))

    chosen : (x : Downtime) (b : Bool) (ys zs : List Downtime) → map (λ (d : Downtime). d.id) ys ≡ map (λ (d : Downtime). d.id) zs → map (λ (d : Downtime). d.id) (cond b (walked_record links x ∷ ys) ys) ≡ map (λ (d : Downtime). d.id) (cond b (x ∷ zs) zs)
    chosen x true ys zs h = ap (λ is. x.id ∷ is) h
    chosen x false ys zs h = h

    each : (xs : List Downtime) → AllByRecursion (IsAgreed ds links a) xs → map (λ (d : Downtime). d.id) (filter (λ d. depends (walked ds links) a d.id && is_active d.fate) (map (walked_record links) xs)) ≡ map (λ (d : Downtime). d.id) (filter (λ d. depends ds a d.id && is_active d.fate) xs)
    each [] k = refl
    each (x ∷ xs) k =
        chosen x (depends (walked ds links) a x.id && is_active x.fate) (filter (λ d. depends (walked ds links) a d.id && is_active d.fate) (map (walked_record links) xs)) (filter (λ d. depends ds a d.id && is_active d.fate) xs) (each xs k.1)
        ∙ ap (λ b. map (λ (d : Downtime). d.id) (cond b (x ∷ filter (λ d. depends ds a d.id && is_active d.fate) xs) (filter (λ d. depends ds a d.id && is_active d.fate) xs))) (joined x k.0)

pub cancelled_walked : (ds : List Downtime) (links : List Link) (a : ℕ) → AreNumbered 0 ds → AreMarked ds links → 0 < a → map (cancelled_record (walked ds links) a) ds ≡ cancelled ds a
unfolding cancelled
cancelled_walked ds links a w marked l = each ds (recursion_from_All (IsAgreed ds links a) ds (all_agreed ds links a w marked l))
  where
    already : (x : Downtime) (b : Bool) → x.fate ≡ Over → cond b (record x { fate = Over }) x ≡ x
    already x true over = ap (λ f. record x { fate = f }) (sym over)
    already x false over = refl

    same : (x : Downtime) → IsAgreed ds links a x → cancelled_record (walked ds links) a x ≡ cancelled_record ds a x
    same x (inl k) = ap (λ b. cond b (record x { fate = Over }) x) k
    same x (inr over) = already x (depends (walked ds links) a x.id) over ∙ sym (already x (depends ds a x.id) over)

    each : (xs : List Downtime) → AllByRecursion (IsAgreed ds links a) xs → map (cancelled_record (walked ds links) a) xs ≡ map (cancelled_record ds a) xs
    each [] k = refl
    each (x ∷ xs) k = ap (λ y. y ∷ map (cancelled_record (walked ds links) a) xs) (same x k.0) ∙ ap (λ ys. cancelled_record ds a x ∷ ys) (each xs k.1)
