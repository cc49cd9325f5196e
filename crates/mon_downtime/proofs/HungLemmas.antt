-- The starts that hang on a trigger, gone through by the links.
use Rattle.std.proofs.Common.{◌≡◌, ℕ, ◌+◌, ◌-◌, ◌<◌, ◌≤◌, Bool, true, false, eqb, ltb, not, ◌&&◌, ◌||◌, List, length, get_or, Option, None, refl, ap, sym, ◌∙◌, subst, arith}
use Rattle.std.proofs.Math.Bool.{and-false, and-true}
use Rattle.std.proofs.Common.{◌⊎◌, inl, inr}
use Rattle.std.proofs.lemmas.Bool.{eqb-true, cases_lt, eq-eqb}
use Rattle.std.proofs.lemmas.Bool.Decides.{nat_tests}
use Rattle.mon_downtime.specs.declared.downtime.Downtime.{Downtime}
use Rattle.mon_downtime.specs.declared.event.Event.{Event}
use Rattle.mon_downtime.specs.Records.{record_of, AreNumbered}
use Rattle.mon_downtime.specs.Order.{has}
use Rattle.mon_downtime.specs.Cancel.{trigger_of}
use Rattle.mon_downtime.specs.Listed.{starts_in, is_start, hangs_on}
use Rattle.mon_downtime.specs.declared.links.Link.{Link}
use Rattle.mon_downtime.specs.Links.{IsLatest, AreLinked}
use Rattle.mon_downtime.proofs.RecordLemmas.{record_of_earlier, record_of_past}
use Rattle.mon_downtime.proofs.ListedLemmas.{start_other_id}

-- one more link
pub hung_step : (ds : List Downtime) (id x y : ℕ) (e : Event) → 0 < x → trigger_of ds x ≡ id → IsLatest ds id (x - 1) y → ((hangs_on ds id e && ltb x e.id) || is_start ds x e) ≡ (hangs_on ds id e && ltb y e.id)
unfolding hangs_on
hung_step ds id x y e l t latest = by_test (eqb x e.id) refl
  where
    itself : x ≡ e.id → (eqb (trigger_of ds e.id) id && is_start ds e.id e && ltb x e.id || is_start ds x e) ≡ (eqb (trigger_of ds e.id) id && is_start ds e.id e && ltb y e.id)
    itself same =
        let trigger : eqb (trigger_of ds e.id) id ≡ true = subst (λ z. eqb (trigger_of ds z) id ≡ true) same (eq-eqb (trigger_of ds x) id t) in
        let first : ltb x e.id ≡ false = grind (arith, nat_tests) in
        let second : ltb y e.id ≡ true = let k = latest.within in grind (arith, nat_tests) in
        let here : is_start ds x e ≡ is_start ds e.id e = ap (λ z. is_start ds z e) same in
        rw (trigger, first, second, here) (turn (is_start ds e.id e))
      where
        turn : (s : Bool) → ((s && false) || s) ≡ (s && true)
        turn true = refl
        turn false = refl

    by_less : (b c : Bool) → eqb (trigger_of ds e.id) id ≡ b → ltb x e.id ≡ c → eqb x e.id ≡ false → (b && is_start ds e.id e && c || false) ≡ (b && is_start ds e.id e && ltb y e.id)
    by_less false c t less k = refl
    by_less true true t less k =
        let second : ltb y e.id ≡ true = let k = latest.within in grind (arith, nat_tests) in
        rw second (or_none (is_start ds e.id e && true))
      where
        or_none : (b : Bool) → (b || false) ≡ b
        or_none true = refl
        or_none false = refl
    by_less true false t less k = ap (λ b. b || false) (and-false (is_start ds e.id e)) ∙ sym (ap (λ b. is_start ds e.id e && b) (not_between (ltb y e.id) refl) ∙ and-false (is_start ds e.id e))
      where
        not_between : (b : Bool) → ltb y e.id ≡ b → ltb y e.id ≡ false
        not_between true h = absurd (
            let above : y < e.id = grind (arith, nat_tests) in
            let below : e.id ≤ x - 1 = grind (arith, nat_tests) in
            let no = latest.none_after e.id above below in
            cc)
        not_between false h = h

    by_test : (b : Bool) → eqb x e.id ≡ b → (eqb (trigger_of ds e.id) id && is_start ds e.id e && ltb x e.id || is_start ds x e) ≡ (eqb (trigger_of ds e.id) id && is_start ds e.id e && ltb y e.id)
    by_test true k = itself (eqb-true x e.id k)
    by_test false k =
        let none = start_other_id ds x e k in
        rw none (by_less (eqb (trigger_of ds e.id) id) (ltb x e.id) refl refl k)

no_start : (ds : List Downtime) (e : Event) → record_of ds e.id ≡ None → is_start ds e.id e ≡ false
unfolding is_start has
no_start ds e h = ap (λ (o : Option Downtime). has (starts_in ds o) e) h

-- none hangs on it that is behind the last
pub hung_first : (ds : List Downtime) (id y : ℕ) (e : Event) → AreNumbered 0 ds → IsLatest ds id (length ds) y → (hangs_on ds id e && ltb y e.id) ≡ false
unfolding hangs_on
hung_first ds id y e w latest = by_place (cases_lt (length ds) e.id)
  where
    by_less : (b c : Bool) → eqb (trigger_of ds e.id) id ≡ b → ltb y e.id ≡ c → e.id ≤ length ds → (b && is_start ds e.id e && c) ≡ false
    by_less false c t less k = refl
    by_less true false t less k = and-false (is_start ds e.id e)
    by_less true true t less k = absurd (let above : y < e.id = grind (arith, nat_tests) in let no = latest.none_after e.id above k in cc)

    by_place : (length ds < e.id) ⊎ (e.id ≤ length ds) → (eqb (trigger_of ds e.id) id && is_start ds e.id e && ltb y e.id) ≡ false
    by_place (inl h) =
        let none = no_start ds e (record_of_past 0 ds e.id w (omega arith)) in
        rw none (ap (λ b. b && ltb y e.id) (and-false (eqb (trigger_of ds e.id) id)))
    by_place (inr h) = by_less (eqb (trigger_of ds e.id) id) (ltb y e.id) refl refl h

-- those behind no record are all
pub hung_all : (ds : List Downtime) (id : ℕ) (e : Event) → AreNumbered 0 ds → (hangs_on ds id e && ltb 0 e.id) ≡ hangs_on ds id e
unfolding hangs_on
hung_all ds id e w = by_less (ltb 0 e.id) refl
  where
    by_less : (b : Bool) → ltb 0 e.id ≡ b → (eqb (trigger_of ds e.id) id && is_start ds e.id e && b) ≡ (eqb (trigger_of ds e.id) id && is_start ds e.id e)
    by_less true k = and-true (eqb (trigger_of ds e.id) id && is_start ds e.id e)
    by_less false k =
        let zero_is : e.id ≤ 0 = grind (arith, nat_tests) in
        let none = no_start ds e (record_of_earlier 0 ds e.id w zero_is) in
        rw none (and-false (eqb (trigger_of ds e.id) id && false) ∙ sym (and-false (eqb (trigger_of ds e.id) id)))

-- ---- the links

pub latest_link : (ds : List Downtime) (links : List Link) (id : ℕ) (l : Link) → AreLinked ds links → 1 ≤ id → id ≤ length ds → IsLatest ds id (length ds) (get_or links (id - 1) l).latest
latest_link ds links id l w first last =
    let e : (id - 1) + 1 ≡ id = omega arith in
    subst (λ k. IsLatest ds k (length ds) (get_or links (id - 1) l).latest) e (w.latest (id - 1) l (let n = w.each in omega arith))

pub earlier_link : (ds : List Downtime) (links : List Link) (id x : ℕ) (l : Link) → AreLinked ds links → 1 ≤ id → 0 < x → x ≤ length ds → trigger_of ds x ≡ id → IsLatest ds id (x - 1) (get_or links (x - 1) l).earlier
earlier_link ds links id x l w first some last t =
    let e : (x - 1) + 1 ≡ x = omega arith in
    let trigger : trigger_of ds ((x - 1) + 1) ≡ id = subst (λ k. trigger_of ds k ≡ id) (sym e) t in
    subst (λ k. IsLatest ds k (x - 1) (get_or links (x - 1) l).earlier) trigger (w.earlier (x - 1) l (let n = w.each in omega arith) (omega arith))

pub start_hangs : (ds : List Downtime) (id x : ℕ) (e : Event) → trigger_of ds x ≡ id → is_start ds x e ≡ true → (hangs_on ds id e ≡ true) × (x ≡ e.id)
unfolding hangs_on
start_hangs ds id x e t h = by_test (eqb x e.id) refl
  where
    by_test : (b : Bool) → eqb x e.id ≡ b → ((eqb (trigger_of ds e.id) id && is_start ds e.id e) ≡ true) × (x ≡ e.id)
    by_test true k =
        let same = eqb-true x e.id k in
        let trigger : eqb (trigger_of ds e.id) id ≡ true = subst (λ z. eqb (trigger_of ds z) id ≡ true) same (eq-eqb (trigger_of ds x) id t) in
        let here : is_start ds e.id e ≡ true = subst (λ z. is_start ds z e ≡ true) same h in
        (rw (trigger, here) refl, same)
    by_test false k = absurd (let none = start_other_id ds x e k in cc)

-- ---- turns of the two loops

pub out_step : (ds : List Downtime) (id x y : ℕ) (e : Event) (b : Bool) → 0 < x → trigger_of ds x ≡ id → IsLatest ds id (x - 1) y → ((b && not (hangs_on ds id e && ltb x e.id)) && not (is_start ds x e)) ≡ (b && not (hangs_on ds id e && ltb y e.id))
out_step ds id x y e b l t latest = joined b (hangs_on ds id e && ltb x e.id) (is_start ds x e) ∙ ap (λ c. b && not c) (hung_step ds id x y e l t latest)
  where
    joined : (a b c : Bool) → ((a && not b) && not c) ≡ (a && not (b || c))
    joined true true c = refl
    joined true false c = refl
    joined false b c = refl

pub put_step : (ds : List Downtime) (id x y : ℕ) (e : Event) (b : Bool) → 0 < x → trigger_of ds x ≡ id → IsLatest ds id (x - 1) y → (is_start ds x e || (hangs_on ds id e && ltb x e.id || b)) ≡ (hangs_on ds id e && ltb y e.id || b)
put_step ds id x y e b l t latest = joined (is_start ds x e) (hangs_on ds id e && ltb x e.id) b ∙ ap (λ c. c || b) (hung_step ds id x y e l t latest)
  where
    joined : (a b c : Bool) → (a || (b || c)) ≡ ((b || a) || c)
    joined true true c = refl
    joined true false c = refl
    joined false true c = refl
    joined false false c = refl
