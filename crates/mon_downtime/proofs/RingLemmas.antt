-- What leaves a ring, and what comes into it.
use Rattle.std.proofs.Common.{◌≡◌, ℕ, ◌<◌, ◌≤◌, Bool, true, false, eqb, ◌||◌, refl, ap, sym, ◌∙◌, subst, arith}
use Rattle.std.proofs.Common.{◌⊎◌, inl, inr}
use Rattle.std.proofs.lemmas.Bool.{eqb-true, cases_lt}
use Rattle.std.proofs.lemmas.Bool.Decides.{nat_tests}
use Rattle.mon_downtime.specs.Rings.{is_place, IsNext, IsRing}

pub unlike : (a b : ℕ) → (a ≡ b → ⊥) → eqb a b ≡ false
unlike a b h = by_test (eqb a b) refl
  where
    by_test : (c : Bool) → eqb a b ≡ c → eqb a b ≡ false
    by_test true k = absurd (h (eqb-true a b k))
    by_test false k = k

pub waits_is_place : (waits : ℕ → Bool) (p : ℕ) → waits p ≡ true → is_place waits p ≡ true
waits_is_place waits p h = rw h (by_test (eqb p 0))
  where
    by_test : (b : Bool) → (b || true) ≡ true
    by_test true = refl
    by_test false = refl

-- a place is the end, or it waits
pub place_cases : (waits : ℕ → Bool) (p : ℕ) → is_place waits p ≡ true → (p ≡ 0) ⊎ (waits p ≡ true)
place_cases waits p h = by_test (eqb p 0) refl h
  where
    by_test : (b : Bool) → eqb p 0 ≡ b → (b || waits p) ≡ true → (p ≡ 0) ⊎ (waits p ≡ true)
    by_test true e k = inl (eqb-true p 0 e)
    by_test false e k = inr k

above_waits : (waits : ℕ → Bool) (p : ℕ) → is_place waits p ≡ true → 0 < p → waits p ≡ true
above_waits waits p h l = by_cases (place_cases waits p h)
  where
    by_cases : (p ≡ 0) ⊎ (waits p ≡ true) → waits p ≡ true
    by_cases (inl e) = absurd (omega arith)
    by_cases (inr w) = w

-- no two places have the same next
pub one_before : (waits : ℕ → Bool) (next previous : ℕ → ℕ) (p q : ℕ) → IsRing waits next previous → is_place waits p ≡ true → is_place waits q ≡ true → next p ≡ next q → p ≡ q
one_before waits next previous p q r hp hq e = by_order (cases_lt p q) (cases_lt q p)
  where
    not_below : (a b : ℕ) → is_place waits a ≡ true → is_place waits b ≡ true → next a ≡ next b → a < b → ⊥
    not_below a b ha hb k l =
        let waits_b = above_waits waits b hb (omega arith) in
        let at = (r.follows a ha).least b l waits_b in
        let up = (r.follows b hb).one (omega (arith, at.0)) in
        omega (arith, at.1, up.0)

    by_order : (p < q) ⊎ (q ≤ p) → (q < p) ⊎ (p ≤ q) → p ≡ q
    by_order (inl l) other = absurd (not_below p q hp hq e l)
    by_order (inr g) (inl l) = absurd (not_below q p hq hp (sym e) l)
    by_order (inr g) (inr h) = omega arith

-- ---- the same ring, where what is read at its places is the same

pub ring_same : (waits waits2 : ℕ → Bool) (next next2 previous previous2 : ℕ → ℕ) → IsRing waits next previous
    → ((x : ℕ) → waits2 x ≡ waits x) → ((p : ℕ) → is_place waits p ≡ true → next2 p ≡ next p) → ((p : ℕ) → is_place waits p ≡ true → previous2 p ≡ previous p)
    → IsRing waits2 next2 previous2
ring_same waits waits2 next next2 previous previous2 r same same_next same_previous = record {
  follows = λ p h. let k = turned p h in let f = r.follows p k in let e = same_next p k in rw e (record {
    one = λ l. ((f.one l).0, same (next p) ∙ (f.one l).1);
    least = λ y l w. f.least y l (sym (same y) ∙ w);
  });
  place = λ p h. let k = turned p h in rw (same_previous p k) (forth (previous p) (r.place p k));
  back = λ p h. let k = turned p h in rw (same_previous p k) (same_next (previous p) (r.place p k) ∙ r.back p k);
}
  where
    turned : (p : ℕ) → is_place waits2 p ≡ true → is_place waits p ≡ true
    turned p h = rw (← same p) h

    forth : (p : ℕ) → is_place waits p ≡ true → is_place waits2 p ≡ true
    forth p h = rw (same p) h

-- ---- an id leaves

pub ring_less : (waits waits2 : ℕ → Bool) (next next2 previous previous2 : ℕ → ℕ) (id : ℕ) → IsRing waits next previous → waits id ≡ true → 0 < id
    → waits2 id ≡ false → ((x : ℕ) → eqb x id ≡ false → waits2 x ≡ waits x)
    → next2 (previous id) ≡ next id → ((q : ℕ) → eqb q (previous id) ≡ false → next2 q ≡ next q)
    → previous2 (next id) ≡ previous id → ((q : ℕ) → eqb q (next id) ≡ false → previous2 q ≡ previous q)
    → IsRing waits2 next2 previous2
ring_less waits waits2 next next2 previous previous2 id r w some gone same tied next_same tied_back previous_same = record {
  follows = λ q h. by_next q h (eqb q (previous id)) refl;
  place = λ q h. by_place q h (eqb q (next id)) refl;
  back = λ q h. by_back q h (eqb q (next id)) refl;
}
  where
    here : is_place waits id ≡ true
    here = waits_is_place waits id w

    front : is_place waits (previous id) ≡ true
    front = r.place id here

    below : previous id < id
    below = let e = r.back id here in let up = (r.follows (previous id) front).one (omega arith) in omega (arith, up.0)

    -- what is still a place was one, and is another
    other : (q : ℕ) → is_place waits2 q ≡ true → (q ≡ id → ⊥)
    other q h e = by_cases (place_cases waits2 q h)
      where
        by_cases : (q ≡ 0) ⊎ (waits2 q ≡ true) → ⊥
        by_cases (inl z) = omega arith
        by_cases (inr k) = let no = ap waits2 e in absurd (cc)

    was : (q : ℕ) → is_place waits2 q ≡ true → is_place waits q ≡ true
    was q h = let e = same q (unlike q id (other q h)) in rw (← e) h

    still : (q : ℕ) → is_place waits q ≡ true → (q ≡ id → ⊥) → is_place waits2 q ≡ true
    still q h n = let e = same q (unlike q id n) in rw e h

    waited : (y : ℕ) → waits2 y ≡ true → (waits y ≡ true) × (y ≡ id → ⊥)
    waited y k = (sym (same y (unlike y id not_it)) ∙ k, not_it)
      where
        not_it : y ≡ id → ⊥
        not_it e = let no = ap waits2 e in absurd (cc)

    by_next : (q : ℕ) → is_place waits2 q ≡ true → (b : Bool) → eqb q (previous id) ≡ b → IsNext waits2 q (next2 q)
    by_next q h true e =
        let is = eqb-true q (previous id) e in
        let f = r.follows (previous id) front in
        let g = r.follows id here in
        let at = r.back id here in
        rw is (rw tied (record {
          one = λ l. (omega (arith, below, (g.one l).0), same (next id) (unlike (next id) id (λ k. omega (arith, (g.one l).0))) ∙ (g.one l).1);
          least = λ y l k. let was_y = waited y k in let after = f.least y l was_y.0 in g.least y (between y (was_y.1) (subst (λ z. z ≤ y) at after.1)) was_y.0;
        }))
      where
        between : (y : ℕ) → (y ≡ id → ⊥) → id ≤ y → id < y
        between y n l = by_order (cases_lt id y)
          where
            by_order : (id < y) ⊎ (y ≤ id) → id < y
            by_order (inl k) = k
            by_order (inr k) = absurd (n (omega arith))
    by_next q h false e =
        let was_q = was q h in
        let f = r.follows q was_q in
        rw (next_same q e) (record {
          one = λ l. ((f.one l).0, same (next q) (unlike (next q) id (not_it was_q)) ∙ (f.one l).1);
          least = λ y l k. f.least y l (waited y k).0;
        })
      where
        not_it : is_place waits q ≡ true → next q ≡ id → ⊥
        not_it k n =
            let is = one_before waits next previous q (previous id) r k front (n ∙ sym (r.back id here)) in
            let yes_is : eqb q (previous id) ≡ true = grind (arith, nat_tests) in
            absurd (cc)

    by_place : (q : ℕ) → is_place waits2 q ≡ true → (b : Bool) → eqb q (next id) ≡ b → is_place waits2 (previous2 q) ≡ true
    by_place q h true e = rw (eqb-true q (next id) e, tied_back) (still (previous id) front (λ k. omega (arith, below)))
    by_place q h false e = rw (previous_same q e) (still (previous q) (r.place q (was q h)) (λ k. let at = r.back q (was q h) in let n = ap next k in let yes_is : eqb q (next id) ≡ true = grind (arith, nat_tests) in absurd (cc)))

    by_back : (q : ℕ) → is_place waits2 q ≡ true → (b : Bool) → eqb q (next id) ≡ b → next2 (previous2 q) ≡ q
    by_back q h true e = let is = eqb-true q (next id) e in ap (λ x. next2 (previous2 x)) is ∙ ap next2 tied_back ∙ tied ∙ sym is
    by_back q h false e = ap next2 (previous_same q e) ∙ next_same (previous q) (unlike (previous q) (previous id) (λ k. not_it k)) ∙ r.back q (was q h)
      where
        not_it : previous q ≡ previous id → ⊥
        not_it k = other q h (sym (r.back q (was q h)) ∙ ap next k ∙ r.back id here)

-- ---- an id comes in between two places

pub ring_between : (waits waits2 : ℕ → Bool) (next next2 previous previous2 : ℕ → ℕ) (id p : ℕ) → IsRing waits next previous → is_place waits p ≡ true → p < id → (0 < next p → id < next p)
    → waits id ≡ false → waits2 id ≡ true → ((x : ℕ) → eqb x id ≡ false → waits2 x ≡ waits x)
    → next2 p ≡ id → next2 id ≡ next p → ((q : ℕ) → eqb q p ≡ false → eqb q id ≡ false → next2 q ≡ next q)
    → previous2 (next p) ≡ id → previous2 id ≡ p → ((q : ℕ) → eqb q (next p) ≡ false → eqb q id ≡ false → previous2 q ≡ previous q)
    → IsRing waits2 next2 previous2
ring_between waits waits2 next next2 previous previous2 id p r here low high absent new same tied onward next_same tied_back back_to previous_same = record {
  follows = λ q h. by_next q h (eqb q id) refl (eqb q p) refl;
  place = λ q h. by_place q h (eqb q id) refl (eqb q (next p)) refl;
  back = λ q h. by_back q h (eqb q id) refl (eqb q (next p)) refl;
}
  where
    -- a place of before is another
    other : (q : ℕ) → is_place waits q ≡ true → (q ≡ id → ⊥)
    other q h e = by_cases (place_cases waits q h)
      where
        by_cases : (q ≡ 0) ⊎ (waits q ≡ true) → ⊥
        by_cases (inl z) = omega arith
        by_cases (inr k) = let no = ap waits e in absurd (cc)

    was : (q : ℕ) → is_place waits2 q ≡ true → eqb q id ≡ false → is_place waits q ≡ true
    was q h n = let e = same q n in rw (← e) h

    still : (q : ℕ) → is_place waits q ≡ true → is_place waits2 q ≡ true
    still q h = let e = same q (unlike q id (other q h)) in rw e h

    -- what waited waits
    waits_still : (q : ℕ) → waits q ≡ true → waits2 q ≡ true
    waits_still q h = same q (unlike q id (other q (waits_is_place waits q h))) ∙ h

    -- the place after is the end, or above
    above : (y : ℕ) → p < y → waits y ≡ true → id < y
    above y l w = let f = (r.follows p here).least y l w in let up = high f.0 in omega (arith, f.1, up)

    by_next : (q : ℕ) → is_place waits2 q ≡ true → (b : Bool) → eqb q id ≡ b → (c : Bool) → eqb q p ≡ c → IsNext waits2 q (next2 q)
    by_next q h true e c k =
        let f = r.follows p here in
        rw (eqb-true q id e) (rw onward (record {
          one = λ l. (high l, waits_still (next p) (f.one l).1);
          least = λ y l w. f.least y (omega arith) (sym (same y (unlike y id (λ i. omega arith))) ∙ w);
        }))
    by_next q h false e true k = rw (eqb-true q p k) (rw tied (record {
      one = λ l. (low, new);
      least = λ y l w. (omega arith, by_id y l w (eqb y id) refl);
    }))
      where
        by_id : (y : ℕ) → p < y → waits2 y ≡ true → (b : Bool) → eqb y id ≡ b → id ≤ y
        by_id y l w true n = let is = eqb-true y id n in omega arith
        by_id y l w false n = let up = above y l (sym (same y n) ∙ w) in omega arith
    by_next q h false e false k =
        let was_q = was q h e in
        let f = r.follows q was_q in
        rw (next_same q k e) (record {
          one = λ l. ((f.one l).0, waits_still (next q) (f.one l).1);
          least = λ y l w. by_id f was_q y l w (eqb y id) refl;
        })
      where
        not_at : (q ≡ p → ⊥)
        not_at i = let yes_is : eqb q p ≡ true = grind (arith, nat_tests) in absurd (cc)

        by_order : IsNext waits q (next q) → is_place waits q ≡ true → q < id → (q < p) ⊎ (p ≤ q) → (0 < next q) × (next q ≤ id)
        by_order f was_q l (inl k) = let at = f.least p k (above_waits waits p here (omega arith)) in (at.0, omega (arith, at.1))
        by_order f was_q l (inr k) =
            let up : p < q = by_more (cases_lt p q) in
            let past = above q up (above_waits waits q was_q (omega arith)) in
            absurd (omega arith)
          where
            by_more : (p < q) ⊎ (q ≤ p) → p < q
            by_more (inl m) = m
            by_more (inr m) = absurd (not_at (omega arith))

        by_id : IsNext waits q (next q) → is_place waits q ≡ true → (y : ℕ) → q < y → waits2 y ≡ true → (b : Bool) → eqb y id ≡ b → (0 < next q) × (next q ≤ y)
        by_id f was_q y l w true n =
            let is = eqb-true y id n in
            let at = by_order f was_q (omega arith) (cases_lt q p) in
            (at.0, omega (arith, at.1))
        by_id f was_q y l w false n = f.least y l (sym (same y n) ∙ w)

    by_place : (q : ℕ) → is_place waits2 q ≡ true → (b : Bool) → eqb q id ≡ b → (c : Bool) → eqb q (next p) ≡ c → is_place waits2 (previous2 q) ≡ true
    by_place q h true e c k = rw (eqb-true q id e, back_to) (still p here)
    by_place q h false e true k = rw (eqb-true q (next p) k, tied_back) (waits_is_place waits2 id new)
    by_place q h false e false k = rw (previous_same q k e) (still (previous q) (r.place q (was q h e)))

    by_back : (q : ℕ) → is_place waits2 q ≡ true → (b : Bool) → eqb q id ≡ b → (c : Bool) → eqb q (next p) ≡ c → next2 (previous2 q) ≡ q
    by_back q h true e c k = let is = eqb-true q id e in ap (λ x. next2 (previous2 x)) is ∙ ap next2 back_to ∙ tied ∙ sym is
    by_back q h false e true k = let is = eqb-true q (next p) k in ap (λ x. next2 (previous2 x)) is ∙ ap next2 tied_back ∙ onward ∙ sym is
    by_back q h false e false k =
        let before = r.place q (was q h e) in
        ap next2 (previous_same q k e) ∙ next_same (previous q) (unlike (previous q) p not_it) (unlike (previous q) id (other (previous q) before)) ∙ r.back q (was q h e)
      where
        not_it : previous q ≡ p → ⊥
        not_it n =
            let is : q ≡ next p = sym (r.back q (was q h e)) ∙ ap next n in
            let yes_is : eqb q (next p) ≡ true = grind (arith, nat_tests) in
            absurd (cc)
