-- The parts of a line before a byte and from it on, and spaces.
use Rattle.std.proofs.Common.{◌≡◌, ℕ, zero, suc, ◌≤◌, false, eqb, List, [], ◌∷◌, ◌++◌, length, replicate, take, drop, inl, inr, refl, ap, ◌∙◌, arith, length-append}
use Rattle.std.proofs.lemmas.List.{take_at, drop_at}
use Rattle.std.proofs.lemmas.Bool.{eq-eqb, ne_eqb}
use Rattle.std.proofs.lemmas.Bool.Decides.{eqb_tells}
use Rattle.cmd_types.specs.Bytes.{Lacks}
use Rattle.cmd_types.specs.Cuts.{before}
use Rattle.cmd_lines.specs.FirstFault.{Opens}
use Rattle.cmd_lines.specs.Reading.{from, without_spaces}

pub before_from : (b : ℕ) (xs : List ℕ) → xs ≡ before b xs ++ from b xs
before_from b [] = refl
before_from b (x ∷ xs) =
    elim (eqb_tells x b) [
      | inl h ↦ rw h.0 refl
      | inr h ↦ rw h.0 (ap (λ (t : List ℕ). x ∷ t) (before_from b xs))
    ]

-- cut behind so many bytes as stand before the first b
pub before_short : (b : ℕ) (xs : List ℕ) → length (before b xs) ≤ length xs
before_short b xs = omega (arith, ap length (before_from b xs), length-append (before b xs) (from b xs))

pub take_before : (b : ℕ) (xs : List ℕ) → take (length (before b xs)) xs ≡ before b xs
take_before b xs = ap (take (length (before b xs))) (before_from b xs) ∙ take_at (before b xs) (from b xs) (length (before b xs)) refl

pub drop_before : (b : ℕ) (xs : List ℕ) → drop (length (before b xs)) xs ≡ from b xs
drop_before b xs = ap (drop (length (before b xs))) (before_from b xs) ∙ drop_at (before b xs) (from b xs) (length (before b xs)) refl

pub from_opens : (b : ℕ) (xs : List ℕ) → Opens b (from b xs)
from_opens b [] = inl refl
from_opens b (x ∷ xs) =
    elim (eqb_tells x b) [
      | inl h ↦ rw h.0 (inr (xs, ap (λ (t : ℕ). t ∷ xs) h.1))
      | inr h ↦ rw h.0 (from_opens b xs)
    ]

before_opens : (b : ℕ) (ys : List ℕ) → Opens b ys → (before b ys ≡ []) × (from b ys ≡ ys)
before_opens b ys (inl e) = rw e (refl, refl)
before_opens b ys (inr (more, e)) = rw (e, eq-eqb b b refl) (refl, refl)

pub before_is : (b : ℕ) (xs ys : List ℕ) → Lacks b xs → Opens b ys → before b (xs ++ ys) ≡ xs
before_is b [] ys lacks opens = (before_opens b ys opens).0
before_is b (x ∷ xs) ys lacks opens = rw (ne_eqb x b lacks.0) (ap (λ (t : List ℕ). x ∷ t) (before_is b xs ys lacks.1 opens))

pub from_is : (b : ℕ) (xs ys : List ℕ) → Lacks b xs → Opens b ys → from b (xs ++ ys) ≡ ys
from_is b [] ys lacks opens = (before_opens b ys opens).1
from_is b (x ∷ xs) ys lacks opens = rw (ne_eqb x b lacks.0) (from_is b xs ys lacks.1 opens)

pub spaces_split : (xs : List ℕ) → (n : ℕ) × (xs ≡ replicate n 32 ++ without_spaces xs)
spaces_split [] = (0, refl)
spaces_split (x ∷ xs) =
    elim (eqb_tells x 32) [
      | inl h ↦ (let later = spaces_split xs in (suc later.0, rw (h.0, h.1) (ap (λ (t : List ℕ). 32 ∷ t) later.1)))
      | inr h ↦ (0, rw h.0 refl)
    ]

pub spaces_is : (n x : ℕ) (xs : List ℕ) → eqb x 32 ≡ false → without_spaces (replicate n 32 ++ (x ∷ xs)) ≡ x ∷ xs
spaces_is zero x xs e = rw e refl
spaces_is (suc n) x xs e = spaces_is n x xs e
