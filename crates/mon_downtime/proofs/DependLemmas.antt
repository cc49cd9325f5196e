-- Which downtime depends on which, by their triggers, and what is under the records with one trigger.
use Rattle.std.proofs.Common.{◌≡◌, ℕ, ◌-◌, ◌<◌, ◌≤◌, Bool, true, false, eqb, ◌&&◌, ◌||◌, List, length, refl, ap, sym, ◌∙◌, subst, arith, zero, suc, eq-eqb}
use Rattle.std.proofs.Common.{◌⊎◌, inl, inr}
use Rattle.std.proofs.lemmas.Bool.{eqb-true, cases_lt, and_parts, or_cases, or_left, or_right}
use Rattle.mon_downtime.specs.declared.downtime.Downtime.{Downtime}
use Rattle.mon_downtime.specs.Records.{AreNumbered}
use Rattle.mon_downtime.specs.Cancel.{trigger_of, trigger_in, leads_to, depends}
use Rattle.mon_downtime.specs.Links.{IsLatest}
use Rattle.mon_downtime.specs.Walk.{is_under}
use Rattle.mon_downtime.proofs.RecordLemmas.{record_of_past}
use Rattle.mon_downtime.proofs.CancelLemmas.{trigger_falls, none_leads, leads_itself, depends_step, depends_none}

-- ---- who depends on whom

pub trigger_past : (ds : List Downtime) (y : ℕ) → AreNumbered 0 ds → length ds < y → trigger_of ds y ≡ 0
trigger_past ds y w h = ap trigger_in (record_of_past 0 ds y w (omega arith))

or_none : (b : Bool) → (b || false) ≡ b
or_none true = refl
or_none false = refl

leads_past : (n : ℕ) (ds : List Downtime) (a y : ℕ) → AreNumbered 0 ds → 0 < a → trigger_of ds y ≡ 0 → leads_to n ds a y ≡ eqb y a
unfolding leads_to
leads_past zero ds a y w l t = refl
leads_past (suc n) ds a y w l t = ap (λ z. eqb y a || leads_to n ds a z) t ∙ ap (λ b. eqb y a || b) (none_leads n ds a w l) ∙ or_none (eqb y a)

depends_past : (ds : List Downtime) (a y : ℕ) → AreNumbered 0 ds → 0 < a → trigger_of ds y ≡ 0 → depends ds a y ≡ eqb y a
unfolding depends
depends_past ds a y w l t = leads_past (length ds) ds a y w l t

-- any id depends on a where it is a, or its trigger depends on a
pub steps : (ds : List Downtime) (a y : ℕ) → AreNumbered 0 ds → 0 < a → depends ds a y ≡ (eqb y a || depends ds a (trigger_of ds y))
steps ds a y w l = by_place (cases_lt (length ds) y)
  where
    by_place : (length ds < y) ⊎ (y ≤ length ds) → depends ds a y ≡ (eqb y a || depends ds a (trigger_of ds y))
    by_place (inl past) =
        let t = trigger_past ds y w past in
        depends_past ds a y w l t ∙ sym (ap (λ z. eqb y a || depends ds a z) t ∙ ap (λ b. eqb y a || b) (depends_none ds a w l) ∙ or_none (eqb y a))
    by_place (inr h) = depends_step ds a y w l h

pub itself : (ds : List Downtime) (a : ℕ) → depends ds a a ≡ true
unfolding depends
itself ds a = leads_itself (length ds) ds a

-- what a record with the trigger leads to depends on the trigger
pub child : (ds : List Downtime) (p e : ℕ) → AreNumbered 0 ds → 0 < p → trigger_of ds e ≡ p → depends ds p e ≡ true
child ds p e w l t = steps ds p e w l ∙ or_right (eqb e p) (depends ds p (trigger_of ds e)) (ap (depends ds p) t ∙ itself ds p)

pub none_on_zero : (ds : List Downtime) (a y : ℕ) → AreNumbered 0 ds → 0 < a → y ≤ 0 → depends ds a y ≡ true → ⊥
none_on_zero ds a y w l h d = let z : y ≡ 0 = omega arith in let no = depends_none ds a w l in let e = ap (depends ds a) z in absurd (cc)

above_by : (n : ℕ) (ds : List Downtime) (a y : ℕ) → AreNumbered 0 ds → 0 < a → y ≤ n → depends ds a y ≡ true → a ≤ y
above_by zero ds a y w l h d = absurd (none_on_zero ds a y w l h d)
above_by (suc n) ds a y w l h d = elim (or_cases (eqb y a) (depends ds a (trigger_of ds y)) (sym (steps ds a y w l) ∙ d)) [
  | inl same ↦ (let e = eqb-true y a same in omega arith)
  | inr on ↦ (let t = trigger_falls ds y w in let r = above_by n ds a (trigger_of ds y) w l (omega arith) on in omega arith)
]

-- what depends on a was scheduled after it
pub above : (ds : List Downtime) (a y : ℕ) → AreNumbered 0 ds → 0 < a → depends ds a y ≡ true → a ≤ y
above ds a y w l d = above_by y ds a y w l (omega arith) d

through_by : (n : ℕ) (ds : List Downtime) (a b y : ℕ) → AreNumbered 0 ds → 0 < a → 0 < b → y ≤ n → depends ds a b ≡ true → depends ds b y ≡ true → depends ds a y ≡ true
through_by zero ds a b y w la lb h p q = absurd (none_on_zero ds b y w lb h q)
through_by (suc n) ds a b y w la lb h p q = elim (or_cases (eqb y b) (depends ds b (trigger_of ds y)) (sym (steps ds b y w lb) ∙ q)) [
  | inl same ↦ subst (λ z. depends ds a z ≡ true) (sym (eqb-true y b same)) p
  | inr on ↦ (let t = trigger_falls ds y w in steps ds a y w la ∙ or_right (eqb y a) (depends ds a (trigger_of ds y)) (through_by n ds a b (trigger_of ds y) w la lb (omega arith) p on))
]

-- what depends on a dependant is a dependant
pub through : (ds : List Downtime) (a b y : ℕ) → AreNumbered 0 ds → 0 < a → 0 < b → depends ds a b ≡ true → depends ds b y ≡ true → depends ds a y ≡ true
through ds a b y w la lb p q = through_by y ds a b y w la lb (omega arith) p q

chain_by : (n : ℕ) (ds : List Downtime) (a b y : ℕ) → AreNumbered 0 ds → 0 < a → 0 < b → y ≤ n → a ≤ b → depends ds a y ≡ true → depends ds b y ≡ true → depends ds a b ≡ true
chain_by zero ds a b y w la lb h le p q = absurd (none_on_zero ds a y w la h p)
chain_by (suc n) ds a b y w la lb h le p q = elim (or_cases (eqb y b) (depends ds b (trigger_of ds y)) (sym (steps ds b y w lb) ∙ q)) [
  | inl same ↦ subst (λ z. depends ds a z ≡ true) (eqb-true y b same) p
  | inr on ↦ elim (or_cases (eqb y a) (depends ds a (trigger_of ds y)) (sym (steps ds a y w la) ∙ p)) [
    | inl is ↦ (let e = eqb-true y a is in let up = above ds b y w lb q in let same : a ≡ b = omega arith in subst (λ z. depends ds a z ≡ true) same (itself ds a))
    | inr up ↦ (let t = trigger_falls ds y w in chain_by n ds a b (trigger_of ds y) w la lb (omega arith) le up on)
  ]
]

-- nothing depends on two records with one trigger
pub apart : (ds : List Downtime) (e x y : ℕ) → AreNumbered 0 ds → 0 < e → e < x → trigger_of ds e ≡ trigger_of ds x → depends ds e y ≡ true → depends ds x y ≡ true → ⊥
apart ds e x y w l less t p q =
    let on = chain_by y ds e x y w l (omega arith) (omega arith) (omega arith) p q in
    elim (or_cases (eqb x e) (depends ds e (trigger_of ds x)) (sym (steps ds e x w l) ∙ on)) [
      | inl same ↦ (let is = eqb-true x e same in omega arith)
      | inr up ↦ (let a = above ds e (trigger_of ds x) w l up in let f = trigger_falls ds e w in omega arith)
    ]

-- ---- what is under the records with a trigger

both : (a b : Bool) → a ≡ true → b ≡ true → (a && b) ≡ true
both a b e h = rw (e, h) refl

pub under_from : (ds : List Downtime) (p k e y : ℕ) → 0 < e → e ≤ k → trigger_of ds e ≡ p → depends ds e y ≡ true → is_under ds p k y ≡ true
unfolding is_under
under_from ds p zero e y l h t d = absurd (omega arith)
under_from ds p (suc k) e y l h t d = elim (cases_lt e (suc k)) [
  | inl less ↦ or_right (eqb (trigger_of ds (suc k)) p && depends ds (suc k) y) (is_under ds p k y) (under_from ds p k e y l (omega arith) t d)
  | inr g ↦ (let same : e ≡ suc k = omega arith in or_left (eqb (trigger_of ds (suc k)) p && depends ds (suc k) y) (is_under ds p k y)
      (both (eqb (trigger_of ds (suc k)) p) (depends ds (suc k) y) (subst (λ z. eqb (trigger_of ds z) p ≡ true) same (eq-eqb (trigger_of ds e) p t)) (subst (λ z. depends ds z y ≡ true) same d)))
]

-- the record with the trigger that y is or depends on
pub record HasUnder (ds : List Downtime) (p k y : ℕ) : Type 0 where
  pub one : ℕ
  pub some : 0 < one
  pub within : one ≤ k
  pub trigger : trigger_of ds one ≡ p
  pub on : depends ds one y ≡ true

pub under_has : (ds : List Downtime) (p k y : ℕ) → is_under ds p k y ≡ true → HasUnder ds p k y
unfolding is_under
under_has ds p zero y h = absurd (cc)
under_has ds p (suc k) y h = elim (or_cases (eqb (trigger_of ds (suc k)) p && depends ds (suc k) y) (is_under ds p k y) h) [
  | inl here ↦ (let b = and_parts (eqb (trigger_of ds (suc k)) p) (depends ds (suc k) y) here in record { one = suc k; some = omega arith; within = omega arith; trigger = eqb-true (trigger_of ds (suc k)) p b.0; on = b.1 })
  | inr rest ↦ (let r = under_has ds p k y rest in let l = r.within in record { one = r.one; some = r.some; within = omega arith; trigger = r.trigger; on = r.on })
]

-- no record between e and k has the trigger
under_down : (ds : List Downtime) (p k e y : ℕ) → ((z : ℕ) → e < z → z ≤ k → eqb (trigger_of ds z) p ≡ false) → e ≤ k → is_under ds p k y ≡ is_under ds p e y
unfolding is_under
under_down ds p zero e y none h = (let same : 0 ≡ e = omega arith in ap (λ z. is_under ds p z y) same)
under_down ds p (suc k) e y none h = elim (cases_lt e (suc k)) [
  | inl less ↦ ap (λ b. (b && depends ds (suc k) y) || is_under ds p k y) (none (suc k) less (omega arith)) ∙ under_down ds p k e y (λ z l g. none z l (omega arith)) (omega arith)
  | inr g ↦ (let same : suc k ≡ e = omega arith in ap (λ z. is_under ds p z y) same)
]

-- under the last of them, and under those before it
pub under_latest : (ds : List Downtime) (p k e y : ℕ) → IsLatest ds p k e → 0 < e → is_under ds p k y ≡ (depends ds e y || is_under ds p (e - 1) y)
unfolding is_under
under_latest ds p k zero y w l = absurd (omega arith)
under_latest ds p k (suc m) y w l =
    let before : suc m - 1 ≡ m = omega arith in
    under_down ds p k (suc m) y w.none_after w.within
    ∙ ap (λ b. (b && depends ds (suc m) y) || is_under ds p m y) (eq-eqb (trigger_of ds (suc m)) p (w.one l))
    ∙ ap (λ n. depends ds (suc m) y || is_under ds p n y) (sym before)

pub under_none : (ds : List Downtime) (p k y : ℕ) → IsLatest ds p k 0 → is_under ds p k y ≡ false
unfolding is_under
under_none ds p k y w = under_down ds p k 0 y w.none_after w.within

-- ---- a record, and what is under those that it triggers

pub under_depends : (ds : List Downtime) (x k y : ℕ) → AreNumbered 0 ds → 0 < x → is_under ds x k y ≡ true → depends ds x y ≡ true
under_depends ds x k y w l h =
    let u = under_has ds x k y h in
    through ds x u.one y w l u.some (child ds x u.one w l u.trigger) u.on

-- a trigger that is there is one of a record
within : (ds : List Downtime) (y : ℕ) → AreNumbered 0 ds → 0 < trigger_of ds y → y ≤ length ds
within ds y w h = elim (cases_lt (length ds) y) [
  | inl past ↦ (let t = trigger_past ds y w past in absurd (omega arith))
  | inr l ↦ l
]

depends_under_by : (n : ℕ) (ds : List Downtime) (x y : ℕ) → AreNumbered 0 ds → 0 < x → y ≤ n → depends ds x y ≡ true → (eqb y x || is_under ds x (length ds) y) ≡ true
depends_under_by zero ds x y w l h d = absurd (none_on_zero ds x y w l h d)
depends_under_by (suc n) ds x y w l h d = elim (or_cases (eqb y x) (depends ds x (trigger_of ds y)) (sym (steps ds x y w l) ∙ d)) [
  | inl same ↦ or_left (eqb y x) (is_under ds x (length ds) y) same
  | inr on ↦ (
      let f = trigger_falls ds y w in
      let up = above ds x (trigger_of ds y) w l on in
      let last = within ds y w (omega arith) in
      or_right (eqb y x) (is_under ds x (length ds) y) (elim (or_cases (eqb (trigger_of ds y) x) (is_under ds x (length ds) (trigger_of ds y)) (depends_under_by n ds x (trigger_of ds y) w l (omega arith) on)) [
        | inl is ↦ under_from ds x (length ds) y y (omega arith) last (eqb-true (trigger_of ds y) x is) (itself ds y)
        | inr under ↦ (
            let u = under_has ds x (length ds) (trigger_of ds y) under in
            under_from ds x (length ds) u.one y u.some u.within u.trigger (steps ds u.one y w u.some ∙ or_right (eqb y u.one) (depends ds u.one (trigger_of ds y)) u.on))
      ]))
]

same_tests : (a b : Bool) → (a ≡ true → b ≡ true) → (b ≡ true → a ≡ true) → a ≡ b
same_tests true b f g = sym (f refl)
same_tests false true f g = g refl
same_tests false false f g = refl

pub depends_under : (ds : List Downtime) (x y : ℕ) → AreNumbered 0 ds → 0 < x → depends ds x y ≡ (eqb y x || is_under ds x (length ds) y)
depends_under ds x y w l = same_tests (depends ds x y) (eqb y x || is_under ds x (length ds) y) (depends_under_by y ds x y w l (omega arith)) (λ h. elim (or_cases (eqb y x) (is_under ds x (length ds) y) h) [
  | inl same ↦ subst (λ z. depends ds x z ≡ true) (sym (eqb-true y x same)) (itself ds x)
  | inr under ↦ under_depends ds x (length ds) y w l under
])
