-- The count of the objects that are in a downtime.
use Rattle.std.proofs.Common.{◌≡◌, ℕ, zero, suc, ◌+◌, ◌<◌, ◌≤◌, Bool, false, List, [], ◌∷◌, refl, ap, sym, arith, ◌⊎◌, inl, inr, ltb}
use Rattle.std.specs.Prelude.{count_by}
use Rattle.std.specs.List.{range_with_len}
use Rattle.std.proofs.lemmas.Bool.{cases_lt}
use Rattle.std.proofs.lemmas.List.Sums.{sum_by-cons, count_by-le-length}
use Rattle.std.proofs.lemmas.List.FromFn.{length-range_with_len}
use Rattle.mon_downtime.specs.declared.downtime.Downtime.{Downtime}
use Rattle.mon_downtime.specs.Records.{depth_of}
use Rattle.cmd_types.specs.Counts.{one}
use Rattle.mon_downtime.specs.Depths.{is_in_downtime, objects_in_downtime}

count_cons : (p : ℕ → Bool) (k : ℕ) (ks : List ℕ) → count_by p (k ∷ ks) ≡ one (p k) + count_by p ks
count_cons p k ks = sum_by-cons (λ n. one (p n)) k ks

-- ---- counts over numbers

range_same : (p q : ℕ → Bool) (a n : ℕ) → ((k : ℕ) → a ≤ k → p k ≡ q k) → count_by p (range_with_len a n) ≡ count_by q (range_with_len a n)
range_same p q a zero h = refl
range_same p q a (suc n) h =
    let here : one (p a) ≡ one (q a) = ap one (h a (omega arith)) in
    let rest = range_same p q (a + 1) n (λ k l. h k (omega (arith, l))) in
    let old = count_cons q a (range_with_len (a + 1) n) in
    let now = count_cons p a (range_with_len (a + 1) n) in
    omega (arith, here, rest, old, now)

-- tests that differ at o alone
range_but : (p q : ℕ → Bool) (o a n : ℕ) → ((k : ℕ) → (k ≡ o → ⊥) → p k ≡ q k) → a ≤ o → o < a + n → count_by p (range_with_len a n) + one (q o) ≡ count_by q (range_with_len a n) + one (p o)
range_but p q o a zero h l b = absurd (omega arith)
range_but p q o a (suc n) h l b = by_place (λ m. range_but p q o (a + 1) n h m (omega (arith, b))) (cases_lt a o)
  where
    by_place : (a + 1 ≤ o → count_by p (range_with_len (a + 1) n) + one (q o) ≡ count_by q (range_with_len (a + 1) n) + one (p o))
        → (a < o) ⊎ (o ≤ a) → count_by p (range_with_len a (suc n)) + one (q o) ≡ count_by q (range_with_len a (suc n)) + one (p o)
    by_place later (inl less) =
        let here : one (p a) ≡ one (q a) = ap one (h a (λ e. (omega (arith, e, less)))) in
        let rest = later (omega (arith, less)) in
        let old = count_cons q a (range_with_len (a + 1) n) in
        let now = count_cons p a (range_with_len (a + 1) n) in
        omega (arith, here, rest, old, now)
    by_place later (inr more) =
        let same : a ≡ o = omega (arith, l, more) in
        let rest = range_same p q (a + 1) n (λ k m. h k (λ e. (omega (arith, e, m, same)))) in
        let was : one (q a) ≡ one (q o) = ap (λ k. one (q k)) same in
        let is : one (p a) ≡ one (p o) = ap (λ k. one (p k)) same in
        let old = count_cons q a (range_with_len (a + 1) n) in
        let now = count_cons p a (range_with_len (a + 1) n) in
        omega (arith, was, is, rest, old, now)

range_has : (p : ℕ → Bool) (o a n : ℕ) → a ≤ o → o < a + n → one (p o) ≤ count_by p (range_with_len a n)
range_has p o a zero l b = absurd (omega arith)
range_has p o a (suc n) l b = by_place (λ m. range_has p o (a + 1) n m (omega (arith, b))) (cases_lt a o)
  where
    by_place : (a + 1 ≤ o → one (p o) ≤ count_by p (range_with_len (a + 1) n)) → (a < o) ⊎ (o ≤ a) → one (p o) ≤ count_by p (range_with_len a (suc n))
    by_place later (inl less) =
        let rest = later (omega (arith, less)) in
        let all = count_cons p a (range_with_len (a + 1) n) in
        omega (arith, rest, all)
    by_place later (inr more) =
        let same : a ≡ o = omega (arith, l, more) in
        let is : one (p a) ≡ one (p o) = ap (λ k. one (p k)) same in
        let all = count_cons p a (range_with_len (a + 1) n) in
        omega (arith, is, all)

range_none : (p : ℕ → Bool) (a n : ℕ) → ((k : ℕ) → a ≤ k → p k ≡ false) → count_by p (range_with_len a n) ≡ 0
range_none p a zero h = refl
range_none p a (suc n) h =
    let here : one (p a) ≡ 0 = ap one (h a (omega arith)) in
    let rest = range_none p (a + 1) n (λ k l. h k (omega (arith, l))) in
    let all = count_cons p a (range_with_len (a + 1) n) in
    omega (arith, here, rest, all)

-- ---- the count

pub none_in_downtime : (n : ℕ) → 0 ≡ objects_in_downtime [] n
unfolding objects_in_downtime
none_in_downtime n = sym (range_none (is_in_downtime []) 0 n (λ k l. refl))

pub few_in_downtime : (ds : List Downtime) (n : ℕ) → objects_in_downtime ds n ≤ n
unfolding objects_in_downtime
few_in_downtime ds n =
    let few = count_by-le-length (is_in_downtime ds) (range_with_len 0 n) in
    let long = length-range_with_len 0 n in
    omega (arith, few, long)

pub one_in_downtime : (ds : List Downtime) (o n : ℕ) → o < n → one (is_in_downtime ds o) ≤ objects_in_downtime ds n
unfolding objects_in_downtime
one_in_downtime ds o n l = range_has (is_in_downtime ds) o 0 n (omega arith) (omega (arith, l))

pub same_depths : (ds es : List Downtime) (n : ℕ) → ((k : ℕ) → depth_of es k ≡ depth_of ds k) → objects_in_downtime ds n ≡ objects_in_downtime es n
unfolding objects_in_downtime
same_depths ds es n h = range_same (is_in_downtime ds) (is_in_downtime es) 0 n (λ k l. ap (λ m. ltb 0 m) (sym (h k)))

-- where the depth of one object alone has changed
pub busy_changed : (ds es : List Downtime) (o n count now : ℕ) → ((k : ℕ) → (k ≡ o → ⊥) → depth_of es k ≡ depth_of ds k) → o < n → count ≡ objects_in_downtime ds n
    → now + one (is_in_downtime ds o) ≡ count + one (is_in_downtime es o) → now ≡ objects_in_downtime es n
unfolding objects_in_downtime
busy_changed ds es o n count now h l is step =
    let all = range_but (is_in_downtime es) (is_in_downtime ds) o 0 n (λ k other. ap (λ m. ltb 0 m) (h k other)) (omega arith) (omega (arith, l)) in
    omega (arith, all, is, step)
