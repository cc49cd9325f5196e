-- Two texts are compared byte by byte.
use Rattle.std.proofs.Common.{◌≡◌, ◌≢◌, ◌⊎◌, inl, inr, ℕ, suc, zero, ◌+◌, ◌<◌, ◌≤◌, min, Bool, true, false, eqb, if◌then◌else◌, List, [], ◌∷◌, length, get_or, drop, refl, ap, ◌∙◌, arith}
use Rattle.std.proofs.Math.ListN.{drop_of_length-le}
use Rattle.std.proofs.lemmas.Bool.{cases_lt, eq-eqb, ne_eqb}
use Rattle.std.proofs.lemmas.List.{at_drop_more}
use Rattle.mon_state.specs.Faults.{difference}

-- at a byte of each text, by whether the bytes are equal
at_byte : (xs ys : List ℕ) (i : ℕ) (b : Bool) → i < length xs → i < length ys → eqb (get_or xs i 0) (get_or ys i 0) ≡ b → difference (drop i xs) (drop i ys) ≡ (if b then suc (difference (drop (i + 1) xs) (drop (i + 1) ys)) else zero)
unfolding difference
at_byte xs ys i b low high is =
    at_drop_more (λ (zs : List ℕ). difference zs (drop i ys)) xs i 0 low
    ∙ at_drop_more (difference (get_or xs i 0 ∷ drop (i + 1) xs)) ys i 0 high
    ∙ ap (λ (t : Bool). if t then suc (difference (drop (i + 1) xs) (drop (i + 1) ys)) else zero) is

pub same_here : (xs ys : List ℕ) (i : ℕ) → i < length xs → i < length ys → get_or xs i 0 ≡ get_or ys i 0 → difference (drop i xs) (drop i ys) ≡ suc (difference (drop (i + 1) xs) (drop (i + 1) ys))
same_here xs ys i low high same = at_byte xs ys i true low high (eq-eqb (get_or xs i 0) (get_or ys i 0) same)

pub other_here : (xs ys : List ℕ) (i : ℕ) → i < length xs → i < length ys → get_or xs i 0 ≢ get_or ys i 0 → difference (drop i xs) (drop i ys) ≡ 0
other_here xs ys i low high other = at_byte xs ys i false low high (ne_eqb (get_or xs i 0) (get_or ys i 0) other)

-- one of the texts ends
pub end_here : (xs ys : List ℕ) (i : ℕ) → min (length xs) (length ys) ≤ i → difference (drop i xs) (drop i ys) ≡ 0
unfolding difference
end_here xs ys i ends = by (cases_lt (length xs) (length ys))
  where
    to_none : (zs : List ℕ) → difference zs [] ≡ 0
    to_none [] = refl
    to_none (z ∷ zs) = refl

    by : (length xs < length ys) ⊎ (length ys ≤ length xs) → difference (drop i xs) (drop i ys) ≡ 0
    by (inl shorter) = ap (λ (zs : List ℕ). difference zs (drop i ys)) (drop_of_length-le xs (omega (arith, ends, shorter)))
    by (inr longer) = ap (difference (drop i xs)) (drop_of_length-le ys (omega (arith, ends, longer))) ∙ to_none (drop i xs)
