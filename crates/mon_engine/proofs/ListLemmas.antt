-- Lists of which a place is changed, of which some are kept, or that are put together; loops over a list of places, told from what is left of it.
use Rattle.std.proofs.Common.{◌≡◌, ℕ, zero, suc, ◌+◌, ◌<◌, ◌≤◌, Bool, true, false, cond, List, [], ◌∷◌, ◌++◌, set, length, take, drop, map, get_or, Option, Some, None, slice_get, ◌⊎◌, inl, inr, refl, ap, sym, ◌∙◌, subst, arith}
use Rattle.std.specs.Prelude.{All, Contains, filter}
use Rattle.std.specs.List.{flat_map}
use Rattle.std.proofs.lemmas.List.{at_drop_more, at_drop_all, length-set, map_more}
use Rattle.std.proofs.lemmas.List.Elements.{All-nil, All-head, All-tail, All-append, All-set, All-get_or}
use Rattle.mon_engine.specs.Places.{changed_at, change_to, changed_each}
use Rattle.std.proofs.lemmas.Option.{get_or_from_slice_get, slice_get_within}

-- what holds of each part holds of all
pub All-flat_map : {X Y : Type 0} (P : Y → Type 0) (f : X → List Y) (xs : List X) → All (λ x. All P (f x)) xs → All P (flat_map f xs)
All-flat_map P f [] h = All-nil P
All-flat_map P f (x ∷ xs) h = All-append P (f x) (flat_map f xs) (All-head (λ y. All P (f y)) x xs h) (All-flat_map P f xs (All-tail (λ y. All P (f y)) x xs h))

pub All-each : {X Y : Type 0} (P : Y → Type 0) (f : X → List Y) → ((x : X) → All P (f x)) → (xs : List X) → All P (flat_map f xs)
All-each P f h xs = All-flat_map P f xs (λ k d lt. h (get_or xs k d))

filter_from : {X : Type 0} (p : X → Bool) (xs : List X) (x : X) (k : ℕ) → k < length xs → get_or xs k x ≡ x → p x ≡ true → Contains (filter p xs) x
filter_from p [] x k lt e h = absurd (omega arith)
filter_from p (y ∷ xs) x zero lt e h = (let here : p y ≡ true = ap p e ∙ h in subst (λ (b : Bool). Contains (cond b (y ∷ filter p xs) (filter p xs)) x) (sym here) (0, omega arith, e))
filter_from {X = X} p (y ∷ xs) x (suc k) lt e h = by_test (p y) (filter_from p xs x k (omega arith) e h)
  where
    by_test : (b : Bool) → Contains (filter p xs) x → Contains (cond b (y ∷ filter p xs) (filter p xs)) x
    by_test true c = (suc c.0, (let lt = c.1 in omega arith), c.2)
    by_test false c = c

-- what passes the test is kept
pub contains_filter : {X : Type 0} (p : X → Bool) (xs : List X) (x : X) → Contains xs x → p x ≡ true → Contains (filter p xs) x
contains_filter p xs x c h = filter_from p xs x c.0 c.1 c.2 h

-- one more item of a list that is mapped from its first item on
pub mapped_more : {X Y : Type 0} (f : X → Y) (xs : List X) (i : ℕ) (x : X) (ys zs : List Y) (y : Y) → i < length xs → x ≡ get_or xs i x → ys ≡ map f (take i xs) → y ≡ f x → zs ≡ ys ++ y ∷ [] → zs ≡ map f (take (i + 1) xs)
mapped_more {Y = Y} f xs i x ys zs y lt here before is more =
    more ∙ ap (λ (v : List Y). v ++ y ∷ []) before ∙ ap (λ (z : Y). map f (take i xs) ++ z ∷ []) (is ∙ ap f here) ∙ sym (map_more f xs i x lt)

-- ---- one place

-- what stands in a list with one place set
pub set_cases : {A : Type 0} (xs : List A) (k j : ℕ) (y z : A) → slice_get (set xs k y) j ≡ Some z → ((j ≡ k) × (z ≡ y)) ⊎ (slice_get xs j ≡ Some z)
set_cases [] k j y z e = inr e
set_cases (x ∷ xs) zero zero y z e = inl (refl, let same : y ≡ z = cc in sym same)
set_cases (x ∷ xs) zero (suc j) y z e = inr e
set_cases (x ∷ xs) (suc k) zero y z e = inr e
set_cases (x ∷ xs) (suc k) (suc j) y z e = elim (set_cases xs k j y z e) [
  | inl same ↦ inl (ap suc same.0, same.1)
  | inr old ↦ inr old
]

changed_cons : {A : Type 0} (x : A) (xs : List A) (k : ℕ) (f : A → A) → changed_at (x ∷ xs) (suc k) f ≡ x ∷ changed_at xs k f
changed_cons {A = A} x xs k f = by_old (slice_get xs k)
  where
    by_old : (o : Option A) → change_to (x ∷ xs) (suc k) f o ≡ x ∷ change_to xs k f o
    by_old None = refl
    by_old (Some y) = refl

-- where one place is changed, an item is either that one or as it was
pub changed_cases : {A : Type 0} (xs : List A) (k j : ℕ) (f : A → A) (y : A) → slice_get xs j ≡ Some y → ((k ≡ j) × (slice_get (changed_at xs k f) j ≡ Some (f y))) ⊎ (slice_get (changed_at xs k f) j ≡ Some y)
changed_cases [] k j f y e = absurd (cc)
changed_cases (x ∷ xs) zero zero f y e = inl (refl, let same : x ≡ y = cc in ap (λ z. Some (f z)) same)
changed_cases (x ∷ xs) zero (suc j) f y e = inr e
changed_cases (x ∷ xs) (suc k) zero f y e = inr (ap (λ ys. slice_get ys 0) (changed_cons x xs k f) ∙ e)
changed_cases (x ∷ xs) (suc k) (suc j) f y e = elim (changed_cases xs k j f y e) [
  | inl here ↦ inl (ap suc here.0, ap (λ ys. slice_get ys (suc j)) (changed_cons x xs k f) ∙ here.1)
  | inr there ↦ inr (ap (λ ys. slice_get ys (suc j)) (changed_cons x xs k f) ∙ there)
]

-- the item of that place
pub changed_here : {A : Type 0} (xs : List A) (k : ℕ) (f : A → A) (y : A) → slice_get xs k ≡ Some y → slice_get (changed_at xs k f) k ≡ Some (f y)
changed_here [] k f y e = absurd (cc)
changed_here (x ∷ xs) zero f y e = let same : x ≡ y = cc in ap (λ z. Some (f z)) same
changed_here (x ∷ xs) (suc k) f y e = ap (λ ys. slice_get ys (suc k)) (changed_cons x xs k f) ∙ changed_here xs k f y e

-- any other place is as it was
pub changed_other : {A : Type 0} (xs : List A) (k j : ℕ) (f : A → A) → (k ≡ j → ⊥) → slice_get (changed_at xs k f) j ≡ slice_get xs j
changed_other [] k j f other = refl
changed_other (x ∷ xs) zero zero f other = absurd (other refl)
changed_other (x ∷ xs) zero (suc j) f other = refl
changed_other (x ∷ xs) (suc k) zero f other = ap (λ ys. slice_get ys 0) (changed_cons x xs k f)
changed_other (x ∷ xs) (suc k) (suc j) f other = ap (λ ys. slice_get ys (suc j)) (changed_cons x xs k f) ∙ changed_other xs k j f (λ e. other (ap suc e))

-- what is read at a place is as it was where the change leaves it alone
pub changed_reads : {A X : Type 0} (read : Option A → X) (xs : List A) (k j : ℕ) (f : A → A) → ((a : A) → read (Some (f a)) ≡ read (Some a)) → read (slice_get (changed_at xs k f) j) ≡ read (slice_get xs j)
changed_reads read [] k j f keeps = refl
changed_reads read (x ∷ xs) zero zero f keeps = keeps x
changed_reads read (x ∷ xs) zero (suc j) f keeps = refl
changed_reads read (x ∷ xs) (suc k) zero f keeps = ap (λ ys. read (slice_get ys 0)) (changed_cons x xs k f)
changed_reads read (x ∷ xs) (suc k) (suc j) f keeps = ap (λ ys. read (slice_get ys (suc j))) (changed_cons x xs k f) ∙ changed_reads read xs k j f keeps

pub length-changed_at : {A : Type 0} (xs : List A) (k : ℕ) (f : A → A) → length (changed_at xs k f) ≡ length xs
length-changed_at {A = A} xs k f = by_old (slice_get xs k)
  where
    by_old : (o : Option A) → length (change_to xs k f o) ≡ length xs
    by_old None = refl
    by_old (Some x) = length-set xs k (f x)

-- what holds of all holds of all with one changed, where the change keeps it
pub All-changed_at : {A : Type 0} (P : A → Type 0) (xs : List A) (k : ℕ) (f : A → A) → ((a : A) → slice_get xs k ≡ Some a → P a → P (f a)) → All P xs → All P (changed_at xs k f)
All-changed_at {A = A} P xs k f keeps all = by_old (slice_get xs k) refl
  where
    by_old : (o : Option A) → slice_get xs k ≡ o → All P (change_to xs k f o)
    by_old None at = all
    by_old (Some x) at = All-set P xs k (f x) (keeps x at (subst P (get_or_from_slice_get xs k x x at) (All-get_or P xs k x (slice_get_within xs k x at) all))) all

-- ---- one place after another

pub each_turn : {A : Type 0} (xs ys zs : List A) (ks : List ℕ) (i d : ℕ) (f : A → A) → i < length ks → ys ≡ changed_at xs (get_or ks i d) f → changed_each xs (drop i ks) f ≡ zs → changed_each ys (drop (i + 1) ks) f ≡ zs
unfolding changed_each
each_turn {A = A} xs ys zs ks i d f h is e =
    ap (λ (v : List A). changed_each v (drop (i + 1) ks) f) is ∙ sym (at_drop_more (λ (v : List ℕ). changed_each xs v f) ks i d h) ∙ e

pub each_last : {A : Type 0} (xs zs : List A) (ks : List ℕ) (i : ℕ) (f : A → A) → length ks ≤ i → changed_each xs (drop i ks) f ≡ zs → xs ≡ zs
unfolding changed_each
each_last {A = A} xs zs ks i f h e = sym (at_drop_all (λ (v : List ℕ). changed_each xs v f) ks i h) ∙ e
