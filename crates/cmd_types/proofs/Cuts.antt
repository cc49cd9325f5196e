-- Where the first byte of a kind stands, and what is before and behind it.
use Rattle.std.proofs.Common.{ℕ, Option, Some, None, List, [], ◌∷◌, refl, ap, inl, inr}
use Rattle.std.proofs.lemmas.Bool.Decides.{eqb_tells}
use Rattle.cmd_types.specs.Bytes.{Lacks}
use Rattle.cmd_types.specs.Cuts.{before, after, IsCut}

pub before_lacks : (b : ℕ) (xs : List ℕ) → Lacks b (before b xs)
before_lacks b [] = tt
before_lacks b (x ∷ xs) =
    elim (eqb_tells x b) [
      | inl h ↦ rw h.0 tt
      | inr h ↦ rw h.0 (h.1, before_lacks b xs)
    ]

longer : (b x : ℕ) (xs front : List ℕ) (o : Option (List ℕ)) → IsCut b xs front o → IsCut b (x ∷ xs) (x ∷ front) o
longer b x xs front None h = ap (λ (t : List ℕ). x ∷ t) h
longer b x xs front (Some rest) h = ap (λ (t : List ℕ). x ∷ t) h

pub is_cut : (b : ℕ) (xs : List ℕ) → IsCut b xs (before b xs) (after b xs)
is_cut b [] = refl
is_cut b (x ∷ xs) =
    elim (eqb_tells x b) [
      | inl h ↦ rw h.0 (ap (λ (t : ℕ). t ∷ xs) h.1)
      | inr h ↦ rw h.0 (longer b x xs (before b xs) (after b xs) (is_cut b xs))
    ]
