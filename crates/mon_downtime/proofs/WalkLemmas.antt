-- A walk through a ring, to the first downtime that a problem starts.
use Rattle.std.proofs.Common.{◌≡◌, ℕ, ◌+◌, ◌-◌, ◌<◌, ◌≤◌, Bool, true, false, eqb, leb, ltb, not, cond, ◌&&◌, List, [], ◌∷◌, length, Option, Some, None, refl, ap, sym, ◌∙◌, subst, arith}
use Rattle.std.proofs.Common.{◌⊎◌, inl, inr}
use Rattle.std.specs.Prelude.{find}
use Rattle.std.proofs.lemmas.Bool.{eqb-true, cases_lt, and_parts}
use Rattle.std.proofs.lemmas.Bool.Decides.{nat_tests}
use Rattle.std.proofs.lemmas.Option.{same_Some}
use Rattle.mon_downtime.specs.declared.downtime.Downtime.{Downtime}
use Rattle.mon_downtime.specs.declared.rings.Rings.{Rings}
use Rattle.mon_downtime.specs.Records.{record_of, AreNumbered}
use Rattle.mon_downtime.specs.Problem.{is_pending, waits_for, waiting}
use Rattle.mon_downtime.specs.Rings.{awaits_in, awaits_at, is_in, is_open_in, is_open, IsFirstOpen, is_place, next_of, previous_of, AreRings}
use Rattle.mon_downtime.proofs.RecordLemmas.{record_of_earlier, record_by_test}
use Rattle.mon_downtime.proofs.RingLemmas.{waits_is_place, place_cases}
use Rattle.mon_downtime.proofs.WaitLemmas.{in_awaits, membership, next_place, place_within}

-- the turn of a walk through a ring
pub record IsWalked (ds : List Downtime) (out : ℕ → Bool) (o clock x : ℕ) : Type 0 where
  pub place : is_place (is_in ds out o) x ≡ true
  pub within : x ≤ length ds
  pub least : (y : ℕ) → is_in ds out o y ≡ true → is_open ds clock y ≡ true → (0 < x) × (x ≤ y)

pub walk_begins : (ds : List Downtime) (out : ℕ → Bool) (a : Rings) (o clock : ℕ) → AreNumbered 0 ds → AreRings ds out a → IsWalked ds out o clock (next_of a o 0)
walk_begins ds out a o clock n w =
    let r = w.ring o in
    let place = next_place (is_in ds out o) (next_of a o) (previous_of a o) 0 r refl in
    record {
      place = place;
      within = place_within ds out o (next_of a o 0) n place;
      least = λ y h k. (r.follows 0 refl).least y ((membership ds out n).some o y h) h;
    }

pub walk_goes_on : (ds : List Downtime) (out : ℕ → Bool) (a : Rings) (o clock x : ℕ) → AreNumbered 0 ds → AreRings ds out a → IsWalked ds out o clock x → is_open ds clock x ≡ false → IsWalked ds out o clock (next_of a o x)
walk_goes_on ds out a o clock x n w k closed =
    let r = w.ring o in
    let place = next_place (is_in ds out o) (next_of a o) (previous_of a o) x r k.place in
    record {
      place = place;
      within = place_within ds out o (next_of a o x) n place;
      least = λ y h opens. let at = k.least y h opens in (r.follows x k.place).least y (behind y at.1 opens (cases_lt x y)) h;
    }
  where
    behind : (y : ℕ) → x ≤ y → is_open ds clock y ≡ true → (x < y) ⊎ (y ≤ x) → x < y
    behind y l opens (inl h) = h
    behind y l opens (inr h) = absurd (let same : x ≡ y = omega arith in let both = ap (is_open ds clock) same in cc)

-- less is left to walk
pub walk_falls : (ds : List Downtime) (out : ℕ → Bool) (a : Rings) (o clock x : ℕ) → AreNumbered 0 ds → AreRings ds out a → IsWalked ds out o clock x → (x ≡ 0 → ⊥) → cond (eqb (next_of a o x) 0) 0 (length ds + 1 - next_of a o x) < cond (eqb x 0) 0 (length ds + 1 - x)
walk_falls ds out a o clock x n w k some = by_start (eqb x 0) refl
  where
    within : x ≤ length ds
    within = k.within

    by_next : (c : Bool) → eqb (next_of a o x) 0 ≡ c → cond c 0 (length ds + 1 - next_of a o x) < length ds + 1 - x
    by_next true e = let l = within in omega arith
    by_next false e =
        let up : 0 < next_of a o x = grind (arith, nat_tests) in
        let f = ((w.ring o).follows x k.place).one up in
        let l = place_within ds out o (next_of a o x) n (waits_is_place (is_in ds out o) (next_of a o x) f.1) in
        omega (arith, f.0)

    by_start : (c : Bool) → eqb x 0 ≡ c → cond (eqb (next_of a o x) 0) 0 (length ds + 1 - next_of a o x) < cond c 0 (length ds + 1 - x)
    by_start true e = absurd (some (eqb-true x 0 e))
    by_start false e = by_next (eqb (next_of a o x) 0) refl

-- where those left out are not open, the walk has met the first that is
pub walk_ends : (ds : List Downtime) (out : ℕ → Bool) (o clock x : ℕ) → IsWalked ds out o clock x → ((y : ℕ) → out y ≡ true → is_open ds clock y ≡ false) → (0 < x → is_open ds clock x ≡ true) → IsFirstOpen ds o clock x
walk_ends ds out o clock x k closed opens = record {
  one = λ h. (in_awaits ds out o x (waits_here h (place_cases (is_in ds out o) x k.place)), opens h);
  least = λ y h i. k.least y (by_test y h i (out y) refl) i;
}
  where
    waits_here : 0 < x → (x ≡ 0) ⊎ (is_in ds out o x ≡ true) → is_in ds out o x ≡ true
    waits_here h (inl z) = absurd (omega arith)
    waits_here h (inr w) = w

    by_test : (y : ℕ) → awaits_at ds o y ≡ true → is_open ds clock y ≡ true → (b : Bool) → out y ≡ b → is_in ds out o y ≡ true
    by_test y h i true e = absurd (let no = closed y e in cc)
    by_test y h i false e = ap (λ b. awaits_at ds o y && not b) e ∙ ap (λ b. b && true) h

-- the first by a test stands no later than any that meets it
find_least : (n : ℕ) (p : Downtime → Bool) (ds : List Downtime) (y : ℕ) (e : Downtime) → AreNumbered n ds → record_of ds y ≡ Some e → p e ≡ true → (d : Downtime) × (find p ds ≡ Some d) × (d.id ≤ y)
find_least n p [] y e w h k = absurd (cc)
find_least n p (x ∷ ds) y e w h k = by_test (λ r. find_least (n + 1) p ds y e w.1 r k) (p x) refl (eqb x.id y) refl h
  where
    by_test : (record_of ds y ≡ Some e → (d : Downtime) × (find p ds ≡ Some d) × (d.id ≤ y)) → (b : Bool) → p x ≡ b → (c : Bool) → eqb x.id y ≡ c → cond c (Some x) (record_of ds y) ≡ Some e → (d : Downtime) × (cond b (Some x) (find p ds) ≡ Some d) × (d.id ≤ y)
    by_test again true t true i r = (x, refl, (let is = eqb-true x.id y i in omega arith))
    by_test again true t false i r = (x, refl, by_order (cases_lt n y))
      where
        by_order : (n < y) ⊎ (y ≤ n) → x.id ≤ y
        by_order (inl l) = let next = w.0.id_next in omega arith
        by_order (inr l) = absurd (let none = record_of_earlier (n + 1) ds y w.1 (omega arith) in cc)
    by_test again false t true i r = absurd (let same : x ≡ e = cc in let both = ap p same in cc)
    by_test again false t false i r = again r

waits_joined : (a b c d e f : Bool) → (a && b && c && d && e && f) ≡ ((a && (b && c && d)) && (e && f))
waits_joined false b c d e f = refl
waits_joined true false c d e f = refl
waits_joined true true false d e f = refl
waits_joined true true true false e f = refl
waits_joined true true true true e f = refl

waits_by : (object clock : ℕ) (d : Downtime) → waits_for object clock d ≡ (awaits_in object (Some d) && is_open_in clock (Some d))
waits_by object clock d = waits_joined (eqb d.object object) (is_pending d.fate) (not d.plan.times.fixed) (eqb d.plan.times.trigger_id 0) (leb d.plan.times.start_time clock) (ltb clock d.plan.times.end_time)

pub first_open_waits : (ds : List Downtime) (object clock x : ℕ) → AreNumbered 0 ds → IsFirstOpen ds object clock x → record_of ds x ≡ waiting ds object clock
first_open_waits ds object clock x n f = by_found (find (waits_for object clock) ds) refl (cases_lt 0 x)
  where
    both_true : (a b : Bool) → a ≡ true → b ≡ true → (a && b) ≡ true
    both_true a b h k = rw (h, k) refl

    its : (r : Option Downtime) → record_of ds x ≡ r → 0 < x → (d : Downtime) × (record_of ds x ≡ Some d) × (waits_for object clock d ≡ true)
    its None e l = absurd (let no = (f.one l).0 in let here = ap (awaits_in object) e in cc)
    its (Some d) e l = (d, e, waits_by object clock d ∙ both_true (awaits_in object (Some d)) (is_open_in clock (Some d)) (sym (ap (awaits_in object) e) ∙ (f.one l).0) (sym (ap (is_open_in clock) e) ∙ (f.one l).1))

    by_found : (r : Option Downtime) → find (waits_for object clock) ds ≡ r → (0 < x) ⊎ (x ≤ 0) → record_of ds x ≡ r
    by_found None e (inl l) =
        let i = its (record_of ds x) refl l in
        let g = find_least 0 (waits_for object clock) ds x i.0 n i.1 i.2 in
        absurd (let s = g.1 in cc)
    by_found None e (inr l) = record_of_earlier 0 ds x n l
    by_found (Some d) e (inl l) =
        let i = its (record_of ds x) refl l in
        let g = find_least 0 (waits_for object clock) ds x i.0 n i.1 i.2 in
        let same : g.0 ≡ d = same_Some g.0 d (sym g.1 ∙ e) in
        let t = record_by_test 0 (waits_for object clock) ds d n e in
        let parts = and_parts (awaits_in object (Some d)) (is_open_in clock (Some d)) (sym (waits_by object clock d) ∙ t.1) in
        let at = f.least d.id (ap (awaits_in object) t.0 ∙ parts.0) (ap (is_open_in clock) t.0 ∙ parts.1) in
        let up : d.id ≤ x = subst (λ (v : Downtime). v.id ≤ x) same g.2 in
        let is : x ≡ d.id = omega (arith, at.1, up) in
        ap (record_of ds) is ∙ t.0
    by_found (Some d) e (inr l) =
        let t = record_by_test 0 (waits_for object clock) ds d n e in
        let parts = and_parts (awaits_in object (Some d)) (is_open_in clock (Some d)) (sym (waits_by object clock d) ∙ t.1) in
        let at = f.least d.id (ap (awaits_in object) t.0 ∙ parts.0) (ap (is_open_in clock) t.0 ∙ parts.1) in
        absurd (omega (arith, at.0))
