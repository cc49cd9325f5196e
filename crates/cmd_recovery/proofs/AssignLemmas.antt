-- The feeds of a run: each has one number.
use Rattle.std.proofs.Common.{◌≡◌, ◌<◌, ◌≤◌, ◌⊎◌, inl, inr, ℕ, ◌+◌, zero, suc, Bool, true, false, cond, eqb, List, [], ◌∷◌, ◌++◌, length, map, get_or, take, Some, Bor, refl, sym, ap, ◌∙◌, subst, arith, append_assoc, append-nil}
use Rattle.std.specs.Prelude.{slice_get}
use Rattle.std.specs.List.{count_by}
use Rattle.std.specs.List.Sorted.{IsPermutation}
use Rattle.std.specs.Str.{bytes_eq}
use Rattle.std.proofs.lemmas.Bool.{cases_lt, eq-eqb, ne_eqb, false_from_ne_true}
use Rattle.std.proofs.lemmas.Bool.Decides.{eqb_tells}
use Rattle.std.proofs.lemmas.Slice.Eq.{bytes_eq-Decides}
use Rattle.std.proofs.lemmas.List.{get_or-map}
use Rattle.std.proofs.lemmas.List.Sums.{sum_by-cons, sum_by_push, sum_by_more}
use Rattle.std.proofs.lemmas.List.Sorted.{IsPermutation-trans, IsPermutation-append_right}
use Rattle.cmd_recovery.specs.declared.feeds.assigned.Role.{Role}
use Rattle.cmd_recovery.specs.declared.feeds.assigned.Role.TheVariants.{Given, Clock, Unnamed}
use Rattle.cmd_recovery.specs.Assigns.{places_to, word_at, has_word, places_of, given_places}

-- ---- places

pub places_more : (n : ℕ) → places_to n ++ n ∷ [] ≡ places_to (n + 1)
places_more n = (let e : suc n ≡ n + 1 = omega arith in ap places_to e)

-- the number for the result of a test: 1 or 0
abbrev pub bit : Bool → ℕ
bit b = cond b 1 0

own_bit : (i : ℕ) → bit (eqb i i) ≡ 1
own_bit i = ap bit (eq-eqb i i refl)

other_bit : (i n : ℕ) → (i ≡ n → ⊥) → bit (eqb i n) ≡ 0
other_bit i n other = ap bit (ne_eqb i n other)

-- each smaller number is in the list exactly once
pub no_place : (i n : ℕ) → n ≤ i → count_by (λ k. eqb i k) (places_to n) ≡ 0
no_place i zero le = refl
no_place i (suc n) le = sum_by_push (λ k. bit (eqb i k)) (places_to n) n ∙ (let none = no_place i n (omega (arith, le)) in let other = other_bit i n (λ e. absurd (omega (arith, e, le))) in omega (arith, none, other))

pub one_place : (i n : ℕ) → i < n → count_by (λ k. eqb i k) (places_to n) ≡ 1
one_place i zero lt = absurd (omega (arith, lt))
one_place i (suc n) lt = sum_by_push (λ k. bit (eqb i k)) (places_to n) n ∙ by_case (one_place i n) (cases_lt i n)
  where
    by_case : (i < n → count_by (λ k. eqb i k) (places_to n) ≡ 1) → (i < n) ⊎ (n ≤ i) → count_by (λ k. eqb i k) (places_to n) + bit (eqb i n) ≡ 1
    by_case one_below (inl low) = (let one = one_below low in let other = other_bit i n (λ e. absurd (omega (arith, e, low))) in omega (arith, one, other))
    by_case one_below (inr high) = (let none = no_place i n high in let own : bit (eqb i n) ≡ 1 = ap bit (eq-eqb i n (omega (arith, lt, high))) in omega (arith, none, own))

pub take_whole : {A : Type 0} (xs : List A) → take (length xs) xs ≡ xs
take_whole [] = refl
take_whole (x ∷ xs) = ap (λ (l : List _). x ∷ l) (take_whole xs)

-- the number of indices with these words is the number of times that the call has the words
words_counted : (words : List (List ℕ)) (w : List ℕ) (n : ℕ) → n ≤ length words → count_by (has_word words w) (places_to n) ≡ count_by (bytes_eq w) (take n words)
words_counted words w zero le = refl
words_counted words w (suc n) le =
    sum_by_push (λ k. bit (has_word words w k)) (places_to n) n
    ∙ ap (λ (m : ℕ). m + bit (has_word words w n)) (words_counted words w n (omega arith))
    ∙ sym (sum_by_more (λ x. bit (bytes_eq w x)) words n [] (omega arith))
    ∙ (let e : n + 1 ≡ suc n = omega arith in ap (λ (m : ℕ). count_by (bytes_eq w) (take m words)) e)

pub all_counted : (words : List (List ℕ)) (w : List ℕ) → count_by (has_word words w) (places_to (length words)) ≡ count_by (bytes_eq w) words
all_counted words w = words_counted words w (length words) (omega arith) ∙ ap (count_by (bytes_eq w)) (take_whole words)

-- ---- roles

pub given_more : (rs qs : List Role) → given_places (rs ++ qs) ≡ given_places rs ++ given_places qs
given_more [] qs = refl
given_more (r ∷ rs) qs = ap (λ (l : List ℕ). places_of r ++ l) (given_more rs qs) ∙ sym (append_assoc (places_of r) (given_places rs) (given_places qs))

pub given_all : (free : List ℕ) → given_places (map Given free) ≡ free
given_all [] = refl
given_all (i ∷ free) = ap (λ (l : List ℕ). i ∷ l) (given_all free)

-- one more feed takes an index
pub shared_more : (all free free' : List ℕ) (rs : List Role) (r : Role) → IsPermutation all (given_places rs ++ free) → IsPermutation free (places_of r ++ free') → IsPermutation all (given_places (rs ++ r ∷ []) ++ free')
shared_more all free free' rs r so_far now =
    subst (IsPermutation all)
    (sym (append_assoc (given_places rs) (places_of r) free') ∙ ap (λ (l : List ℕ). (given_places rs ++ l) ++ free') (sym (append-nil (places_of r))) ∙ ap (λ (l : List ℕ). l ++ free') (sym (given_more rs (r ∷ []))))
    (IsPermutation-trans all (given_places rs ++ free) (given_places rs ++ (places_of r ++ free')) so_far (IsPermutation-append_right (given_places rs) free (places_of r ++ free') now))

module _ (i : ℕ) where
  abbrev pub count_of : List Role → ℕ
  count_of rs = count_by (λ k. eqb i k) (given_places rs)

  head_counts : (j : ℕ) (rs : List Role) → count_of (Given j ∷ rs) ≡ bit (eqb i j) + count_of rs
  head_counts j rs = sum_by-cons (λ k. bit (eqb i k)) j (given_places rs)

  clock_counts : (rs : List Role) → count_of (Clock ∷ rs) ≡ count_of rs
  clock_counts rs = refl

  unnamed_counts : (rs : List Role) → count_of (Unnamed ∷ rs) ≡ count_of rs
  unnamed_counts rs = refl

  pub is_counted : (rs : List Role) (k : ℕ) → slice_get rs k ≡ Some (Given i) → 1 ≤ count_of rs
  is_counted [] k here = absurd cc
  is_counted (r ∷ rs) zero here =
      (let own : r ≡ Given i = cc in
      let first = ap count_of (ap (λ (q : Role). q ∷ rs) own) ∙ head_counts i rs in
      let one = own_bit i in
      omega (arith, first, one))
  is_counted (Given j ∷ rs) (suc k) here = (let more = is_counted rs k here in let first = head_counts j rs in omega (arith, more, first))
  is_counted (Clock ∷ rs) (suc k) here = (let more = is_counted rs k here in let first = clock_counts rs in omega (arith, more, first))
  is_counted (Unnamed ∷ rs) (suc k) here = (let more = is_counted rs k here in let first = unnamed_counts rs in omega (arith, more, first))

  twice : (r : Role) (rs : List Role) (k : ℕ) → count_of (r ∷ rs) ≤ 1 → slice_get (r ∷ rs) 0 ≡ Some (Given i) → slice_get rs k ≡ Some (Given i) → ⊥
  twice r rs k one here there =
      (let own : r ≡ Given i = cc in
      let first = ap count_of (ap (λ (q : Role). q ∷ rs) own) ∙ head_counts i rs in
      let self = own_bit i in
      let more = is_counted rs k there in omega (arith, one, first, self, more))

  pub found : (rs : List Role) → 1 ≤ count_of rs → (k : ℕ) × (slice_get rs k ≡ Some (Given i))
  found [] some = absurd (omega (arith, some))
  found (Clock ∷ rs) some = (let more = found rs some in (suc more.0, more.1))
  found (Unnamed ∷ rs) some = (let more = found rs some in (suc more.0, more.1))
  found (Given j ∷ rs) some = elim (eqb_tells i j) [
    | inl own ↦ (zero, ap (λ (n : ℕ). Some (Given n)) (sym own.1))
    | inr other ↦ (let first = head_counts j rs in let none : bit (eqb i j) ≡ 0 = ap bit other.0 in let more = found rs (omega (arith, some, first, none)) in (suc more.0, more.1))
  ]

  pub once_at : (rs : List Role) (k l : ℕ) → count_of rs ≤ 1 → slice_get rs k ≡ Some (Given i) → slice_get rs l ≡ Some (Given i) → k ≡ l
  once_at [] k l one here there = absurd cc
  once_at (r ∷ rs) zero zero one here there = refl
  once_at (r ∷ rs) zero (suc l) one here there = absurd (twice r rs l one here there)
  once_at (r ∷ rs) (suc k) zero one here there = absurd (twice r rs k one there here)
  once_at (Given j ∷ rs) (suc k) (suc l) one here there = (let first = head_counts j rs in ap suc (once_at rs k l (omega (arith, one, first)) here there))
  once_at (Clock ∷ rs) (suc k) (suc l) one here there = (let first = clock_counts rs in ap suc (once_at rs k l (omega (arith, one, first)) here there))
  once_at (Unnamed ∷ rs) (suc k) (suc l) one here there = (let first = unnamed_counts rs in ap suc (once_at rs k l (omega (arith, one, first)) here there))

-- ---- words

-- the words at an index are those that are read there
pub given_word : (words : List (Bor (List ℕ))) (i : ℕ) (d : Bor (List ℕ)) (bytes : List ℕ) → i < length words → bytes ≡ (get_or words i d).now → word_at (map (λ w. w.now) words) i ≡ bytes
given_word words i d bytes lt is = get_or-map (λ (w : Bor (List ℕ)). w.now) words i d [] lt ∙ sym is

pub same_bytes : (xs ys : List ℕ) → bytes_eq xs ys ≡ true → xs ≡ ys
same_bytes xs ys is = (bytes_eq-Decides xs ys).0 is

pub other_word : (words : List (List ℕ)) (w : List ℕ) (i : ℕ) (bytes : List ℕ) → word_at words i ≡ bytes → bytes_eq bytes w ≡ false → has_word words w i ≡ false
other_word words w i bytes at other = false_from_ne_true (has_word words w i) (λ is. (let same : bytes ≡ w = sym at ∙ sym (same_bytes w (word_at words i) is) in let clash : true ≡ false = sym ((bytes_eq-Decides bytes w).1 same) ∙ other in cc))
