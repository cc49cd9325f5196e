-- Bytes that a list lacks, and carriage returns at its end.
use Rattle.std.proofs.Common.{◌≡◌, ◌≢◌, ℕ, zero, suc, ◌≤◌, not, eqb, List, [], ◌∷◌, ◌++◌, length, replicate, Decides, inl, inr, refl, sym, ap, ◌∙◌, arith, length-append}
use Rattle.std.specs.List.{list_any}
use Rattle.std.proofs.lemmas.Bool.{eq-eqb, ne_eqb, eqb-true, false≢true}
use Rattle.std.proofs.lemmas.Bool.Decides.{eqb_tells}
use Rattle.std.proofs.lemmas.List.{append-nil, length-replicate}
use Rattle.cmd_types.specs.Bytes.{Lacks, before_rest, without_returns}

-- ---- Lacks

pub Decides-lacks : (b : ℕ) (xs : List ℕ) → Decides (not (list_any (λ y. eqb y b) xs)) (Lacks b xs)
Decides-lacks b [] = (λ _. tt, λ _. refl)
Decides-lacks b (x ∷ xs) =
    elim (eqb_tells x b) [
      | inl h ↦ rw h.0 (λ e. absurd (false≢true e), λ w. absurd (w.0 h.1))
      | inr h ↦ rw h.0 (λ e. (h.1, (Decides-lacks b xs).0 e), λ w. (Decides-lacks b xs).1 w.1)
    ]

pub Lacks-append : (b : ℕ) (xs ys : List ℕ) → Lacks b xs → Lacks b ys → Lacks b (xs ++ ys)
Lacks-append b [] ys h k = k
Lacks-append b (x ∷ xs) ys h k = (h.0, Lacks-append b xs ys h.1 k)

pub Lacks-front : (b : ℕ) (xs ys : List ℕ) → Lacks b (xs ++ ys) → Lacks b xs
Lacks-front b [] ys h = tt
Lacks-front b (x ∷ xs) ys h = (h.0, Lacks-front b xs ys h.1)

pub Lacks-back : (b : ℕ) (xs ys : List ℕ) → Lacks b (xs ++ ys) → Lacks b ys
Lacks-back b [] ys h = h
Lacks-back b (x ∷ xs) ys h = Lacks-back b xs ys h.1

-- ---- without_returns

at_cons : (x y : ℕ) (xs : List ℕ) → before_rest x (xs ++ y ∷ []) ≡ x ∷ (xs ++ y ∷ [])
at_cons x y [] = refl
at_cons x y (z ∷ xs) = refl

pub without_returns-return : (xs : List ℕ) → without_returns (xs ++ 13 ∷ []) ≡ without_returns xs
without_returns-return [] = refl
without_returns-return (x ∷ xs) = ap (before_rest x) (without_returns-return xs)

pub without_returns-other : (xs : List ℕ) (y : ℕ) → y ≢ 13 → without_returns (xs ++ y ∷ []) ≡ xs ++ y ∷ []
without_returns-other [] y ne = rw (ne_eqb y 13 ne) refl
without_returns-other (x ∷ xs) y ne = ap (before_rest x) (without_returns-other xs y ne) ∙ at_cons x y xs

pub without_returns-returns : (k : ℕ) → without_returns (replicate k 13) ≡ []
without_returns-returns zero = refl
without_returns-returns (suc k) = ap (before_rest 13) (without_returns-returns k)

pub without_returns-append : (xs : List ℕ) (k : ℕ) → without_returns (xs ++ replicate k 13) ≡ without_returns xs
without_returns-append [] k = without_returns-returns k
without_returns-append (x ∷ xs) k = ap (before_rest x) (without_returns-append xs k)

-- the returns that are left out
before_rest-split : (x : ℕ) (ys : List ℕ) (k : ℕ) → (n : ℕ) × (x ∷ (ys ++ replicate k 13) ≡ before_rest x ys ++ replicate n 13)
before_rest-split x [] k =
    elim (eqb_tells x 13) [
      | inl h ↦ (suc k, rw (h.0, h.1) refl)
      | inr h ↦ (k, rw h.0 refl)
    ]
before_rest-split x (y ∷ ys) k = (k, refl)

pub without_returns-split : (xs : List ℕ) → (n : ℕ) × (xs ≡ without_returns xs ++ replicate n 13)
without_returns-split [] = (0, refl)
without_returns-split (x ∷ xs) =
    let later = without_returns-split xs in
    let here = before_rest-split x (without_returns xs) later.0 in
    (here.0, ap (λ (t : List ℕ). x ∷ t) later.1 ∙ here.1)

pub without_returns-short : (xs : List ℕ) → length xs ≤ length (without_returns xs) → without_returns xs ≡ xs
without_returns-short xs le =
    let s = without_returns-split xs in
    let n-is : s.0 ≡ 0 = omega (arith, ap length s.1, length-append (without_returns xs) (replicate s.0 13), length-replicate {A = ℕ} s.0 13) in
    sym (s.1 ∙ ap (λ (n : ℕ). without_returns xs ++ replicate n 13) n-is ∙ append-nil (without_returns xs))

pub without_returns-twice : (xs : List ℕ) → without_returns (without_returns xs) ≡ without_returns xs
without_returns-twice xs =
    let s = without_returns-split xs in
    sym (without_returns-append (without_returns xs) s.0) ∙ ap without_returns (sym s.1)

pub Lacks-without_returns : (b : ℕ) (xs : List ℕ) → Lacks b xs → Lacks b (without_returns xs)
Lacks-without_returns b xs h =
    let s = without_returns-split xs in
    Lacks-front b (without_returns xs) (replicate s.0 13) (rw (← s.1) h)

-- what ends without a return also does so behind a front part
cons_tail : (x : ℕ) (xs : List ℕ) → without_returns (x ∷ xs) ≡ x ∷ xs → without_returns xs ≡ xs
cons_tail x xs e =
    let s = without_returns-split (x ∷ xs) in
    let le : length xs ≤ length (without_returns xs) = before_rest-length x xs (without_returns xs) e in
    without_returns-short xs le
  where
    before_rest-length : (x : ℕ) (xs ys : List ℕ) → before_rest x ys ≡ x ∷ xs → length xs ≤ length ys
    before_rest-length x xs [] e =
        elim (eqb_tells x 13) [
          | inl h ↦ absurd (let f : [] ≡ x ∷ xs = rw h.0 at e in cc)
          | inr h ↦ (let f : x ∷ [] ≡ x ∷ xs = rw h.0 at e in let g : [] ≡ xs = cc in omega (arith, ap length g))
        ]
    before_rest-length x xs (y ∷ ys) e = let g : y ∷ ys ≡ xs = cc in omega (arith, ap length g)

pub without_returns-back : (xs ys : List ℕ) → without_returns (xs ++ ys) ≡ xs ++ ys → without_returns ys ≡ ys
without_returns-back [] ys e = e
without_returns-back (x ∷ xs) ys e = without_returns-back xs ys (cons_tail x (xs ++ ys) e)

pub Decides-without_returns : (xs : List ℕ) → Decides (eqb (length (without_returns xs)) (length xs)) (without_returns xs ≡ xs)
Decides-without_returns xs =
    (λ e. let same : length (without_returns xs) ≡ length xs = eqb-true _ _ e in without_returns-short xs (omega arith), λ e. eq-eqb _ _ (ap length e))
