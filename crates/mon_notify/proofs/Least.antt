-- The least of numbers is one of them, and none of them is less.
use Rattle.std.proofs.Common.{◌≡◌, ℕ, ◌<◌, ◌≤◌, min, List, [], ◌∷◌, length, suc, zero, ◌⊎◌, inl, inr, fold, Some, unwrap_or, Contains, refl, sym, ap, ◌∙◌, arith}
use Rattle.std.proofs.lemmas.List.Elements.{All-nil, All-cons}
use Rattle.std.proofs.lemmas.Bool.{cases_lt}
use Rattle.mon_notify.specs.Interval.{lesser, least_of, IsLeast}

widen : (m x n : ℕ) (xs : List ℕ) → IsLeast (min m x ∷ xs) n → IsLeast (m ∷ x ∷ xs) n
widen m x n xs h =
    let first : n ≤ min m x = h.least 0 0 (omega arith) in
    record {
      among = by h.among;
      least = All-cons (λ k. n ≤ k) m (x ∷ xs) (omega arith) (All-cons (λ k. n ≤ k) x xs (omega arith) (λ k d lt. h.least (suc k) d (omega arith)));
    }
  where
    by : Contains (min m x ∷ xs) n → Contains (m ∷ x ∷ xs) n
    by (suc k, lt, e) = (suc (suc k), (omega arith), e)
    by (zero, lt, e) = which (cases_lt m x)
      where
        which : (m < x) ⊎ (x ≤ m) → Contains (m ∷ x ∷ xs) n
        which (inl below) = (0, (omega arith), (omega arith))
        which (inr above) = (1, (omega arith), (omega arith))

least_from : (m : ℕ) (xs : List ℕ) → (n : ℕ) × (fold lesser (Some m) xs ≡ Some n) × IsLeast (m ∷ xs) n
least_from m [] = (m, refl, record { among = (0, (omega arith), refl); least = All-cons (λ k. m ≤ k) m [] (omega arith) (All-nil (λ k. m ≤ k)) })
least_from m (x ∷ xs) = let r = least_from (min m x) xs in (r.0, r.1, widen m x r.0 xs r.2)

pub least_is : (ns : List ℕ) (own result : ℕ) → 0 < length ns → result ≡ unwrap_or (least_of ns) own → IsLeast ns result
least_is [] own result some e = absurd (omega arith)
least_is (m ∷ xs) own result some e =
    let r = least_from m xs in
    let same : r.0 ≡ result = sym (e ∙ ap (λ o. unwrap_or o own) r.1) in
    rw same at r.2
