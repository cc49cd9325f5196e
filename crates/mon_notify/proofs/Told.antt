-- One more contact of the inventory, and the indices of those who are told.
use Rattle.std.proofs.Common.{◌≡◌, ℕ, ◌+◌, ◌<◌, Bool, true, false, cond, List, [], ◌∷◌, ◌++◌, filter, All, AllPairs, ap, sym, ◌∙◌, arith}
use Rattle.std.specs.List.{range_with_len}
use Rattle.std.proofs.lemmas.List.{map-id, append-nil}
use Rattle.std.proofs.lemmas.List.Elements.{filter-append, All-filter}
use Rattle.std.proofs.lemmas.List.Kept.{AllPairs-filter}
use Rattle.std.proofs.lemmas.List.FromFn.{map-range_with_len_more, get_or-range_with_len, length-range_with_len}

range_more : (n : ℕ) → range_with_len 0 (n + 1) ≡ range_with_len 0 n ++ n ∷ []
range_more n =
    sym (map-id (range_with_len 0 (n + 1)))
    ∙ map-range_with_len_more (λ x. x) 0 n n (omega arith)
    ∙ ap (λ (xs : List ℕ). xs ++ n ∷ []) (map-id (range_with_len 0 n))

told_more : (p : ℕ → Bool) (n : ℕ) → filter p (range_with_len 0 (n + 1)) ≡ filter p (range_with_len 0 n) ++ cond (p n) (n ∷ []) []
told_more p n = ap (filter p) (range_more n) ∙ filter-append p (range_with_len 0 n) (n ∷ [])

pub told_yes : (p : ℕ → Bool) (n : ℕ) (xs ys : List ℕ) (b : Bool) → b ≡ p n → b ≡ true → xs ≡ filter p (range_with_len 0 n) → ys ≡ xs ++ n ∷ [] → ys ≡ filter p (range_with_len 0 (n + 1))
told_yes p n xs ys b e t h k = k ∙ ap (λ (zs : List ℕ). zs ++ n ∷ []) h ∙ sym (told_more p n ∙ ap (λ c. filter p (range_with_len 0 n) ++ cond c (n ∷ []) []) (sym e ∙ t))

pub told_no : (p : ℕ → Bool) (n : ℕ) (xs : List ℕ) (b : Bool) → b ≡ p n → b ≡ false → xs ≡ filter p (range_with_len 0 n) → xs ≡ filter p (range_with_len 0 (n + 1))
told_no p n xs b e t h = h ∙ sym (told_more p n ∙ ap (λ c. filter p (range_with_len 0 n) ++ cond c (n ∷ []) []) (sym e ∙ t) ∙ append-nil (filter p (range_with_len 0 n)))

pub told_ascending : (p : ℕ → Bool) (n : ℕ) → AllPairs ◌<◌ (filter p (range_with_len 0 n))
told_ascending p n = AllPairs-filter ◌<◌ p (range_with_len 0 n) ascending
  where
    ascending : AllPairs ◌<◌ (range_with_len 0 n)
    ascending i j d lt within =
        let here : j < n = omega (arith, length-range_with_len 0 n) in
        let there : i < n = omega arith in
        rw (get_or-range_with_len 0 n i d there, get_or-range_with_len 0 n j d here) (omega arith)

pub told_within : (p : ℕ → Bool) (n : ℕ) → All (λ c. c < n) (filter p (range_with_len 0 n))
told_within p n = All-filter p (λ c. c < n) (range_with_len 0 n) within
  where
    within : All (λ c. c < n) (range_with_len 0 n)
    within k d lt =
        let here : k < n = omega (arith, length-range_with_len 0 n) in
        rw (get_or-range_with_len 0 n k d here) (omega arith)
