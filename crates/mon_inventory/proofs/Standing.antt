-- Where an element stands, and the indices of those that pass a test.
use Rattle.std.proofs.Common.{◌≡◌, ℕ, zero, suc, ◌+◌, ◌<◌, Bool, true, false, cond, if◌then◌else◌, Some, None, List, [], ◌∷◌, ◌++◌, length, slice_get, All, Contains, ◌⊎◌, inl, inr, refl, ap, ◌∙◌, sym, arith, append_assoc, length-append}
use Rattle.std.specs.List.{position_from, AllPairs, filter, filter_map}
use Rattle.std.proofs.lemmas.List.Elements.{All-nil, All-cons, All-weaker}
use Rattle.std.proofs.lemmas.List.Kept.{AllPairs-cons}
use Rattle.std.proofs.lemmas.Option.{same_Some, slice_get_within}
use Rattle.mon_inventory.specs.Lists.{StandsAt, AtMostOne, AreExactly, indices_from}

pub stands : {X : Type 0} (P : X → Type 0) (xs : List X) (n : ℕ) (x : X) → slice_get xs n ≡ Some x → P x → StandsAt P xs n
stands P xs n x e h = record { element = x; within = slice_get_within xs n x e; is = e; holds = h }

pub stands_weaker : {X : Type 0} (P Q : X → Type 0) (xs : List X) (n : ℕ) → ((x : X) → P x → Q x) → StandsAt P xs n → StandsAt Q xs n
stands_weaker P Q xs n f h = record { element = h.element; within = h.within; is = h.is; holds = f h.element h.holds }

stands_later : {X : Type 0} (P : X → Type 0) (x : X) (xs : List X) (n : ℕ) → StandsAt P xs n → StandsAt P (x ∷ xs) (suc n)
stands_later P x xs n h = record { element = h.element; within = omega (arith, h.within); is = h.is; holds = h.holds }

stands_earlier : {X : Type 0} (P : X → Type 0) (x : X) (xs : List X) (n : ℕ) → StandsAt P (x ∷ xs) (suc n) → StandsAt P xs n
stands_earlier P x xs n h = record { element = h.element; within = omega (arith, h.within); is = h.is; holds = h.holds }

stands_first : {X : Type 0} (P : X → Type 0) (x : X) (xs : List X) → StandsAt P (x ∷ xs) 0 → P x
stands_first P x xs h = rw (same_Some x h.element h.is) h.holds

-- ---- one more element

pub slice_get-push : {X : Type 0} (xs : List X) (y : X) (n : ℕ) (x : X) → slice_get xs n ≡ Some x → slice_get (xs ++ y ∷ []) n ≡ Some x
slice_get-push [] y n x e = absurd (cc)
slice_get-push (z ∷ xs) y zero x e = e
slice_get-push (z ∷ xs) y (suc n) x e = slice_get-push xs y n x e

pub slice_get-push_cases : {X : Type 0} (xs : List X) (y : X) (n : ℕ) (x : X) → slice_get (xs ++ y ∷ []) n ≡ Some x → (slice_get xs n ≡ Some x) ⊎ ((n ≡ length xs) × (y ≡ x))
slice_get-push_cases [] y zero x e = inr (refl, same_Some y x e)
slice_get-push_cases [] y (suc n) x e = absurd (cc)
slice_get-push_cases (z ∷ xs) y zero x e = inl e
slice_get-push_cases (z ∷ xs) y (suc n) x e =
    elim (slice_get-push_cases xs y n x e) [
      | inl h ↦ inl h
      | inr h ↦ inr (ap suc h.0, h.1)
    ]

slice_get-seam : {X : Type 0} (xs : List X) (y : X) (ys : List X) → slice_get (xs ++ y ∷ ys) (length xs) ≡ Some y
slice_get-seam [] y ys = refl
slice_get-seam (x ∷ xs) y ys = slice_get-seam xs y ys

pub stands_push : {X : Type 0} (P : X → Type 0) (xs : List X) (y : X) (n : ℕ) → StandsAt P xs n → StandsAt P (xs ++ y ∷ []) n
stands_push P xs y n h = stands P (xs ++ y ∷ []) n h.element (slice_get-push xs y n h.element h.is) h.holds

pub stands_last : {X : Type 0} (P : X → Type 0) (xs : List X) (y : X) → P y → StandsAt P (xs ++ y ∷ []) (length xs)
stands_last P xs y h = stands P (xs ++ y ∷ []) (length xs) y (slice_get-seam xs y []) h

stands_push_cases : {X : Type 0} (P : X → Type 0) (xs : List X) (y : X) (n : ℕ) → StandsAt P (xs ++ y ∷ []) n → StandsAt P xs n ⊎ ((n ≡ length xs) × P y)
stands_push_cases P xs y n h =
    elim (slice_get-push_cases xs y n h.element h.is) [
      | inl e ↦ inl (stands P xs n h.element e h.holds)
      | inr e ↦ inr (e.0, rw e.1 h.holds)
    ]

pub AtMostOne-nil : {X : Type 0} (P : X → Type 0) → AtMostOne P []
AtMostOne-nil P n m h k = let lt = h.within in absurd (omega arith)

pub AtMostOne-push : {X : Type 0} (P : X → Type 0) (xs : List X) (y : X) → AtMostOne P xs → (P y → (n : ℕ) → StandsAt P xs n → ⊥) → AtMostOne P (xs ++ y ∷ [])
AtMostOne-push P xs y once new n m h k =
    elim (stands_push_cases P xs y n h) [
      | inl a ↦ elim (stands_push_cases P xs y m k) [
        | inl b ↦ once n m a b
        | inr b ↦ absurd (new b.1 n a)
      ]
      | inr a ↦ elim (stands_push_cases P xs y m k) [
        | inl b ↦ absurd (new a.1 m b)
        | inr b ↦ a.0 ∙ sym b.0
      ]
    ]

-- ---- the first that passes

found_from : {X : Type 0} (test : X → Bool) (P : X → Type 0) → ((x : X) → test x ≡ true → P x) → (i : ℕ) (xs : List X) (n : ℕ) → position_from test i xs ≡ Some n → (m : ℕ) × (n ≡ i + m) × StandsAt P xs m
found_from test P means i [] n e = absurd (cc)
found_from test P means i (x ∷ xs) n e = by (found_from test P means (i + 1) xs n) (test x) refl e
  where
    by : (position_from test (i + 1) xs ≡ Some n → (m : ℕ) × (n ≡ (i + 1) + m) × StandsAt P xs m)
        → (t : Bool) → test x ≡ t → cond t (Some i) (position_from test (i + 1) xs) ≡ Some n → (m : ℕ) × (n ≡ i + m) × StandsAt P (x ∷ xs) m
    by later true t e = (0, (let f = same_Some i n e in omega arith), stands P (x ∷ xs) 0 x refl (means x t))
    by later false t e = let r = later e in (suc r.0, (let f = r.1 in omega arith), stands_later P x xs r.0 r.2)

pub found : {X : Type 0} (test : X → Bool) (P : X → Type 0) → ((x : X) → test x ≡ true → P x) → (xs : List X) (n : ℕ) → position_from test 0 xs ≡ Some n → StandsAt P xs n
found test P means xs n e = let r = found_from test P means 0 xs n e in let same : r.0 ≡ n = (let f = r.1 in omega arith) in rw (← same) r.2

pub not_found : {X : Type 0} (test : X → Bool) (P : X → Type 0) → ((x : X) → P x → test x ≡ true) → (i : ℕ) (xs : List X) → position_from test i xs ≡ None → (n : ℕ) → StandsAt P xs n → ⊥
not_found test P tells i [] e n h = let lt = h.within in omega arith
not_found test P tells i (x ∷ xs) e zero h = let e' : None ≡ Some i = sym (rw (tells x (stands_first P x xs h)) at e) in cc
not_found test P tells i (x ∷ xs) e (suc n) h = by (λ f. not_found test P tells (i + 1) xs f n (stands_earlier P x xs n h)) (test x) e
  where
    by : (position_from test (i + 1) xs ≡ None → ⊥) → (t : Bool) → cond t (Some i) (position_from test (i + 1) xs) ≡ None → ⊥
    by later true e = absurd (cc)
    by later false e = later e

-- ---- the indices of all that pass

module _ {X : Type 0} (test : X → Bool) (P : X → Type 0) (means : (x : X) → test x ≡ true → P x) (tells : (x : X) → P x → test x ≡ true) where
  -- the indices from i on of those that pass, as places from i on
  abbrev FromPlace : ℕ → List X → ℕ → Type 0
  FromPlace i xs n = (m : ℕ) × (n ≡ i + m) × StandsAt P xs m

  each_from : (i : ℕ) (xs : List X) → All (FromPlace i xs) (indices_from test i xs)
  each_from i [] = All-nil (FromPlace i [])
  each_from i (x ∷ xs) = by (each_from (i + 1) xs) (test x) refl
    where
      shift : (n : ℕ) → FromPlace (i + 1) xs n → FromPlace i (x ∷ xs) n
      shift n r = (suc r.0, (let f = r.1 in omega arith), stands_later P x xs r.0 r.2)

      by : All (FromPlace (i + 1) xs) (indices_from test (i + 1) xs) → (t : Bool) → test x ≡ t
          → All (FromPlace i (x ∷ xs)) (if t then i ∷ indices_from test (i + 1) xs else indices_from test (i + 1) xs)
      by later true t = All-cons (FromPlace i (x ∷ xs)) i _ (0, (let e : i ≡ i + 0 = omega arith in e), stands P (x ∷ xs) 0 x refl (means x t)) (All-weaker (FromPlace (i + 1) xs) _ shift _ later)
      by later false t = All-weaker (FromPlace (i + 1) xs) _ shift _ later

  ascending_from : (i : ℕ) (xs : List X) → AllPairs ◌<◌ (indices_from test i xs)
  ascending_from i [] = λ k j d lt within. absurd (omega arith)
  ascending_from i (x ∷ xs) = by (ascending_from (i + 1) xs) (test x)
    where
      above : (n : ℕ) → FromPlace (i + 1) xs n → i < n
      above n r = let f = r.1 in omega arith

      by : AllPairs ◌<◌ (indices_from test (i + 1) xs) → (t : Bool) → AllPairs ◌<◌ (if t then i ∷ indices_from test (i + 1) xs else indices_from test (i + 1) xs)
      by later true = AllPairs-cons ◌<◌ i _ (All-weaker (FromPlace (i + 1) xs) _ above _ (each_from (i + 1) xs)) later
      by later false = later

  contains_later : (x n : ℕ) (ns : List ℕ) → Contains ns n → Contains (x ∷ ns) n
  contains_later x n ns h = (suc h.0, (let lt = h.1 in omega arith), h.2)

  every_from : (i : ℕ) (xs : List X) (m : ℕ) → StandsAt P xs m → Contains (indices_from test i xs) (i + m)
  every_from i [] m h = let lt = h.within in absurd (omega arith)
  every_from i (x ∷ xs) zero h =
      rw (tells x (stands_first P x xs h)) (0, (let lt : 0 < length (i ∷ indices_from test (i + 1) xs) = omega arith in lt), (let e : i ≡ i + 0 = omega arith in e))
  every_from i (x ∷ xs) (suc m) h =
      let shift : (i + 1) + m ≡ i + suc m = omega arith in
      by (let c = every_from (i + 1) xs m (stands_earlier P x xs m h) in rw shift at c) (test x)
    where
      by : Contains (indices_from test (i + 1) xs) (i + suc m) → (t : Bool) → Contains (if t then i ∷ indices_from test (i + 1) xs else indices_from test (i + 1) xs) (i + suc m)
      by later true = contains_later i (i + suc m) _ later
      by later false = later

  at_place : (xs : List X) (n : ℕ) → FromPlace 0 xs n → StandsAt P xs n
  at_place xs n r = let same : r.0 ≡ n = (let f = r.1 in omega arith) in rw (← same) r.2

  pub exactly : (xs : List X) → AreExactly P xs (indices_from test 0 xs)
  exactly xs = record {
    ascending = ascending_from 0 xs;
    each = All-weaker (FromPlace 0 xs) _ (at_place xs) _ (each_from 0 xs);
    every = λ n h. let c = every_from 0 xs n h in let same : 0 + n ≡ n = omega arith in rw same at c;
  }

-- ---- the elements at those indices

numbers_filter : {X : Type 0} (test : X → Bool) (before xs : List X) → filter_map (slice_get (before ++ xs)) (indices_from test (length before) xs) ≡ filter test xs
numbers_filter test before [] = refl
numbers_filter test before (x ∷ xs) =
    let all : (before ++ x ∷ []) ++ xs ≡ before ++ x ∷ xs = append_assoc before (x ∷ []) xs in
    let many : length (before ++ x ∷ []) ≡ length before + 1 = omega (arith, length-append before (x ∷ [])) in
    let later : filter_map (slice_get (before ++ x ∷ xs)) (indices_from test (length before + 1) xs) ≡ filter test xs = rw (← all, ← many) (numbers_filter test (before ++ x ∷ []) xs) in
    let here : slice_get (before ++ x ∷ xs) (length before) ≡ Some x = slice_get-seam before x xs in
    by (test x) later here
  where
    by : (t : Bool) → filter_map (slice_get (before ++ x ∷ xs)) (indices_from test (length before + 1) xs) ≡ filter test xs → slice_get (before ++ x ∷ xs) (length before) ≡ Some x
        → filter_map (slice_get (before ++ x ∷ xs)) (if t then length before ∷ indices_from test (length before + 1) xs else indices_from test (length before + 1) xs) ≡ cond t (x ∷ filter test xs) (filter test xs)
    by true later here = rw (here, later) refl
    by false later here = later

pub elements : {X : Type 0} (test : X → Bool) (xs : List X) → filter_map (slice_get xs) (indices_from test 0 xs) ≡ filter test xs
elements test xs = numbers_filter test [] xs
