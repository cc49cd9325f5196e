-- A list of numbers in order is known by how often it has each.
use Rattle.std.proofs.Common.{◌≡◌, ℕ, ◌+◌, ◌<◌, ◌≤◌, Bool, true, false, eqb, cond, List, [], ◌∷◌, ◌++◌, refl, ap, sym, ◌∙◌, subst, arith, suc, eq-eqb}
use Rattle.std.proofs.Common.{inl, inr}
use Rattle.std.specs.List.{AllByRecursion, count_by}
use Rattle.std.specs.List.Sorted.{IsNonDecreasingBy, IsPermutation}
use Rattle.std.proofs.lemmas.Bool.{cases_order}
use Rattle.std.proofs.lemmas.Bool.Decides.{nat_tests}
use Rattle.std.proofs.lemmas.List.Elements.{recursion_from_All}
use Rattle.std.proofs.lemmas.List.Recursion.{is_count_by}
use Rattle.std.proofs.lemmas.List.Sorted.{sum_by-IsPermutation}

one_less : (b : Bool) (m n : ℕ) → cond b (1 + m) m ≡ cond b (1 + n) n → m ≡ n
one_less true m n h = omega arith
one_less false m n h = h

-- each is at most those behind it
abbrev pub AreRising : List ℕ → Type 0
AreRising [] = Unit {0}
AreRising (x ∷ xs) = AllByRecursion (λ y. x ≤ y) xs × AreRising xs

-- one more, where a test passes
abbrev pub one_if : Bool → ℕ → ℕ
one_if b n = cond b (1 + n) n

-- how many pass a test
abbrev pub many : {X : Type 0} → (X → Bool) → List X → ℕ
many p [] = 0
many p (x ∷ xs) = one_if (p x) (many p xs)

pub many_is : {X : Type 0} (p : X → Bool) (xs : List X) → many p xs ≡ count_by p xs
many_is p xs = is_count_by (many p) p refl (λ x ys. refl) xs

pub many_moved : {X : Type 0} (p : X → Bool) (xs ys : List X) → IsPermutation xs ys → many p ys ≡ many p xs
many_moved p xs ys h = many_is p ys ∙ sum_by-IsPermutation (λ y. cond (p y) 1 0) xs ys h ∙ sym (many_is p xs)

-- how often z is there
abbrev pub times : ℕ → List ℕ → ℕ
times z xs = many (λ y. eqb y z) xs

pub times_moved : (z : ℕ) (xs ys : List ℕ) → IsPermutation xs ys → times z ys ≡ times z xs
times_moved z xs ys h = many_moved (λ y. eqb y z) xs ys h

pub times_pushed : (z x : ℕ) (xs : List ℕ) → times z (xs ++ x ∷ []) ≡ one_if (eqb x z) (times z xs)
times_pushed z x [] = refl
times_pushed z x (y ∷ ys) = ap (one_if (eqb y z)) (times_pushed z x ys) ∙ turned (eqb y z) (eqb x z) (times z ys)
  where
    turned : (a b : Bool) (n : ℕ) → one_if a (one_if b n) ≡ one_if b (one_if a n)
    turned true true n = refl
    turned true false n = refl
    turned false true n = refl
    turned false false n = refl

once_more : (z x : ℕ) (xs : List ℕ) → eqb x z ≡ true → times z (x ∷ xs) ≡ 1 + times z xs
once_more z x xs h = ap (λ b. one_if b (times z xs)) h

not_more : (z x : ℕ) (xs : List ℕ) → eqb x z ≡ false → times z (x ∷ xs) ≡ times z xs
not_more z x xs h = ap (λ b. one_if b (times z xs)) h

itself : (x : ℕ) → eqb x x ≡ true
itself x = eq-eqb x x refl

-- what is below all is not there
too_low : (z x : ℕ) (xs : List ℕ) → z < x → AllByRecursion (λ y. x ≤ y) xs → times z xs ≡ 0
too_low z x [] h a = refl
too_low z x (y ∷ ys) h a =
    let other : eqb y z ≡ false = (let l = a.0 in grind (arith, nat_tests)) in
    not_more z y ys other ∙ too_low z x ys h a.1

-- the first of one list is not below that of another which has it as often
not_below : (x y : ℕ) (xs ys : List ℕ) → AllByRecursion (λ z. y ≤ z) ys → x < y → times x (x ∷ xs) ≡ times x (y ∷ ys) → ⊥
not_below x y xs ys a h e =
    let other : eqb y x ≡ false = grind (arith, nat_tests) in
    let none : times x (y ∷ ys) ≡ 0 = not_more x y ys other ∙ too_low x y ys h a in
    let one = once_more x x xs (itself x) in
    omega arith

pub same_rising : (xs ys : List ℕ) → AreRising xs → AreRising ys → ((z : ℕ) → times z xs ≡ times z ys) → xs ≡ ys
same_rising [] [] a b h = refl
same_rising [] (y ∷ ys) a b h = absurd (let one = once_more y y ys (itself y) in let e = h y in omega arith)
same_rising (x ∷ xs) [] a b h = absurd (let one = once_more x x xs (itself x) in let e = h x in omega arith)
same_rising (x ∷ xs) (y ∷ ys) a b h = elim (cases_order x y) [
  | inl same ↦ (
      let rest : (z : ℕ) → times z xs ≡ times z ys = (λ z. one_less (eqb x z) (times z xs) (times z ys) (subst (λ v. times z (x ∷ xs) ≡ times z (v ∷ ys)) (sym same) (h z))) in
      ap (λ v. v ∷ xs) same ∙ ap (λ zs. y ∷ zs) (same_rising xs ys a.1 b.1 rest))
  | inr other ↦ absurd (elim other [
    | inl less ↦ not_below x y xs ys b.0 less (h x)
    | inr more ↦ not_below y x ys xs a.0 more (sym (h y))
  ])
]

pub rising_from : (xs : List ℕ) → IsNonDecreasingBy (λ x. x) xs → AreRising xs
rising_from [] h = tt
rising_from (x ∷ xs) h = (recursion_from_All (λ y. x ≤ y) xs (λ k d l. h 0 (suc k) d (omega arith) (omega arith)), rising_from xs (λ i j d l g. h (suc i) (suc j) d (omega arith) (omega arith)))
