-- What a move within the memory does to the events, and what a place is once another event is out.
use Rattle.std.proofs.Common.{◌≡◌, ℕ, ◌+◌, ◌-◌, ◌<◌, ◌≤◌, Bool, true, false, not, ◌&&◌, ◌||◌, List, [], ◌∷◌, ◌++◌, length, take, drop, set, refl, ap, sym, ◌∙◌, arith, zero, suc, append_assoc, subst}
use Rattle.std.specs.List.{AllByRecursion, copy_within, remove}
use lib.Seq.{paste}
use Rattle.std.proofs.lemmas.Bool.Decides.{nat_tests}
use Rattle.std.proofs.lemmas.List.{length-append, length-take-le, length-drop, take-append-le, drop-append-le, drop-drop, take-append-drop, take_at, drop_at, drop-take, set_split}
use Rattle.std.proofs.lemmas.List.Edits.{take-paste, drop-paste, length-remove}
use Rattle.std.proofs.Math.Seq.{take-append-add, drop-append-add}
use Rattle.mon_downtime.specs.declared.event.Event.{Event}
use Rattle.mon_downtime.specs.Events.{before}
use Rattle.mon_downtime.specs.Order.{same, has, Ascending}
use Rattle.mon_downtime.specs.Queue.{IsPlaceOf, IsFoundAt, in_block, block, put_at, written}
use Rattle.mon_downtime.proofs.OrderLemmas.{all_after_taken, all_dropped, all_joined, same_has, has-removed, remove_behind}
use Rattle.mon_downtime.proofs.BlockLemmas.{block-more, block-one, length-block, has-put, ascending_put, put_by}

-- ---- a copy of n from place i on to another place

pub copied : (xs : List Event) (i j n to : ℕ) → j ≡ i + n → j ≤ length xs → to ≤ length xs → copy_within xs i j to ≡ take to xs ++ (take n (drop i xs) ++ drop (to + n) xs)
copied xs i j n to e l t =
    let many : j - i ≡ n = omega arith in
    let enough : n ≤ length (drop i xs) = omega (arith, length-drop i xs) in
    ap (λ k. paste xs to (drop i xs) k) many
    ∙ sym (take-append-drop (to + n) (paste xs to (drop i xs) n))
    ∙ (rw (take-paste xs to (drop i xs) n t enough, drop-paste xs to (drop i xs) n t enough) (append_assoc (take to xs) (take n (drop i xs)) (drop (to + n) xs)))

-- all that stand from a place on, moved to another, with nothing behind
pub slid : (xs ys ws zs : List Event) (s k n to : ℕ) → take (length xs) ys ≡ xs → s + n ≡ length xs → length xs ≤ length ys → to ≤ length ys → k ≡ s → ws ≡ copy_within ys k (k + n) to → zs ≡ take (to + n) ws → drop to zs ≡ drop s xs
slid xs ys ws zs s k n to front e l t same moved cut =
    let many : (s + n) - s ≡ n = omega arith in
    let enough : n ≤ length (drop s ys) = omega (arith, length-drop s ys) in
    let long : length (drop s xs) ≡ n = omega (arith, length-drop s xs) in
    let behind : drop s ys ≡ drop s xs ++ drop (length xs) ys = ap (λ (vs : List Event). drop s vs) (sym (take-append-drop (length xs) ys) ∙ ap (λ (vs : List Event). vs ++ drop (length xs) ys) front) ∙ drop-append-le s xs (drop (length xs) ys) (omega arith) in
    let is : zs ≡ take (to + n) (copy_within ys s (s + n) to) = cut ∙ ap (λ (vs : List Event). take (to + n) vs) (moved ∙ ap (λ j. copy_within ys j (j + n) to) same) in
    ap (λ (vs : List Event). drop to vs) (is ∙ ap (λ j. take (to + n) (paste ys to (drop s ys) j)) many ∙ take-paste ys to (drop s ys) n t enough)
    ∙ drop_at (take to ys) (take n (drop s ys)) to (length-take-le to ys t)
    ∙ ap (λ (vs : List Event). take n vs) behind
    ∙ take_at (drop s xs) (drop (length xs) ys) n long

-- those before place n, moved on by one
pub front_moved : (xs : List Event) (s n : ℕ) → s ≤ length xs → n < length (drop s xs) → drop (s + 1) (copy_within xs s (s + n) (s + 1)) ≡ remove (drop s xs) n
front_moved xs s n l h =
    let long = length-drop s xs in
    let next : (s + 1) + n ≡ s + suc n = omega arith in
    ap (λ (zs : List Event). drop (s + 1) zs) (copied xs s (s + n) n (s + 1) refl (omega arith) (omega arith))
    ∙ drop_at (take (s + 1) xs) (take n (drop s xs) ++ drop ((s + 1) + n) xs) (s + 1) (length-take-le (s + 1) xs (omega arith))
    ∙ ap (λ (zs : List Event). take n (drop s xs) ++ zs) (ap (λ k. drop k xs) next ∙ sym (drop-drop (suc n) s xs))

-- those before place n, moved back by m, and m others written behind them
pub front_opened : (xs bs : List Event) (s f m n : ℕ) → f + m ≡ s → s ≤ length xs → n ≤ length (drop s xs) → drop f (written (f + n) bs m (copy_within xs s (s + n) f)) ≡ put_at n bs (drop s xs)
front_opened xs bs s f m n e l h =
    let long = length-drop s xs in
    let q = drop s xs in
    let front = take f xs ++ take n q in
    let front_long : length front ≡ f + n = omega (arith, length-append (take f xs) (take n q), length-take-le f xs (omega arith), length-take-le n q h) in
    let is : copy_within xs s (s + n) f ≡ front ++ drop (f + n) xs = copied xs s (s + n) n f refl (omega arith) (omega arith) ∙ sym (append_assoc (take f xs) (take n q) (drop (f + n) xs)) in
    let there : (f + n) + m ≡ s + n = omega arith in
    let behind : drop ((f + n) + m) (front ++ drop (f + n) xs) ≡ drop n q =
    sym (drop-drop m (f + n) (front ++ drop (f + n) xs))
    ∙ ap (λ (zs : List Event). drop m zs) (drop_at front (drop (f + n) xs) (f + n) front_long)
    ∙ drop-drop m (f + n) xs ∙ ap (λ k. drop k xs) there ∙ sym (drop-drop n s xs) in
    ap (λ (zs : List Event). drop f (take (f + n) zs ++ (bs ++ drop ((f + n) + m) zs))) is
    ∙ (rw (take_at front (drop (f + n) xs) (f + n) front_long, behind) refl)
    ∙ ap (λ (zs : List Event). drop f zs) (append_assoc (take f xs) (take n q) (bs ++ drop n q))
    ∙ drop_at (take f xs) (take n q ++ (bs ++ drop n q)) f (length-take-le f xs (omega arith))

-- ---- one in the place of another

-- those between a place and a later one, moved back by one, and one written behind them
pub put_later : (xs : List Event) (i n : ℕ) (e : Event) → (i + 1) + n ≤ length xs → set (copy_within xs (i + 1) ((i + 1) + n) i) (i + n) e ≡ put_at (i + n) (e ∷ []) (remove xs i)
put_later xs i n e l =
    let rest = drop (suc i) xs in
    let next : i + 1 ≡ suc i = omega arith in
    let front = take i xs ++ take n rest in
    let rest_long = length-drop (suc i) xs in
    let at = length-take-le i xs (omega arith) in
    let front_long : length front ≡ i + n = omega (arith, length-append (take i xs) (take n rest), at, length-take-le n rest (omega arith)) in
    let is : copy_within xs (i + 1) ((i + 1) + n) i ≡ front ++ drop (i + n) xs =
    copied xs (i + 1) ((i + 1) + n) n i refl l (omega arith)
    ∙ ap (λ k. take i xs ++ (take n (drop k xs) ++ drop (i + n) xs)) next
    ∙ sym (append_assoc (take i xs) (take n rest) (drop (i + n) xs)) in
    let long : i + n < length (front ++ drop (i + n) xs) = omega (arith, length-append front (drop (i + n) xs), length-drop (i + n) xs) in
    let last : (i + n) + 1 ≡ suc (i + n) = omega arith in
    let ends : (i + n) + 1 ≡ suc i + n = omega arith in
    let behind : drop (suc (i + n)) (front ++ drop (i + n) xs) ≡ drop n rest =
    ap (λ k. drop k (front ++ drop (i + n) xs)) (sym last)
    ∙ sym (drop-drop 1 (i + n) (front ++ drop (i + n) xs))
    ∙ ap (λ (zs : List Event). drop 1 zs) (drop_at front (drop (i + n) xs) (i + n) front_long)
    ∙ drop-drop 1 (i + n) xs ∙ ap (λ k. drop k xs) ends ∙ sym (drop-drop n (suc i) xs) in
    let taken : take (i + n) (take i xs ++ rest) ≡ front = ap (λ k. take (k + n) (take i xs ++ rest)) (sym at) ∙ take-append-add (take i xs) rest n in
    let dropped : drop (i + n) (take i xs ++ rest) ≡ drop n rest = ap (λ k. drop (k + n) (take i xs ++ rest)) (sym at) ∙ drop-append-add (take i xs) rest n in
    ap (λ (zs : List Event). set zs (i + n) e) is
    ∙ set_split (front ++ drop (i + n) xs) (i + n) e long
    ∙ (rw (take_at front (drop (i + n) xs) (i + n) front_long, behind, taken, dropped) refl)

-- those between a place and an earlier one, moved on by one, and one written before them
pub put_sooner : (xs : List Event) (i n : ℕ) (e : Event) → i + n < length xs → set (copy_within xs i (i + n) (i + 1)) i e ≡ put_at i (e ∷ []) (remove xs (i + n))
put_sooner xs i n e l =
    let rest = drop i xs in
    let rest_long = length-drop i xs in
    let next : (i + 1) + n ≡ suc (i + n) = omega arith in
    let first : i + 1 ≡ suc i = omega arith in
    let moved = take n rest ++ drop (suc (i + n)) xs in
    let is : copy_within xs i (i + n) (i + 1) ≡ take (i + 1) xs ++ moved =
    copied xs i (i + n) n (i + 1) refl (omega arith) (omega arith)
    ∙ ap (λ k. take (i + 1) xs ++ (take n rest ++ drop k xs)) next in
    let at = length-take-le (i + 1) xs (omega arith) in
    let long : i < length (take (i + 1) xs ++ moved) = omega (arith, length-append (take (i + 1) xs) moved) in
    let front : take i (take (i + 1) xs ++ moved) ≡ take i xs =
    take-append-le i (take (i + 1) xs) moved (omega arith) ∙ taken i xs in
    let behind : drop (suc i) (take (i + 1) xs ++ moved) ≡ moved = ap (λ k. drop k (take (i + 1) xs ++ moved)) (sym first) ∙ drop_at (take (i + 1) xs) moved (i + 1) at in
    let whole = length-take-le (i + n) xs (omega arith) in
    let left : take i (take (i + n) xs ++ drop (suc (i + n)) xs) ≡ take i xs = take-append-le i (take (i + n) xs) (drop (suc (i + n)) xs) (omega arith) ∙ taken_more i n xs in
    let right : drop i (take (i + n) xs ++ drop (suc (i + n)) xs) ≡ moved = drop-append-le i (take (i + n) xs) (drop (suc (i + n)) xs) (omega arith) ∙ ap (λ (zs : List Event). zs ++ drop (suc (i + n)) xs) (dropped i n xs) in
    ap (λ (zs : List Event). set zs i e) is
    ∙ set_split (take (i + 1) xs ++ moved) i e long
    ∙ (rw (front, behind, left, right) refl)
  where
    taken_more : (i n : ℕ) (xs : List Event) → take i (take (i + n) xs) ≡ take i xs
    taken_more zero n xs = refl
    taken_more (suc i) n [] = let k : suc i + n ≡ suc (i + n) = omega arith in rw k refl
    taken_more (suc i) n (x ∷ xs) = let k : suc i + n ≡ suc (i + n) = omega arith in rw k (ap (λ (zs : List Event). x ∷ zs) (taken_more i n xs))

    taken : (i : ℕ) (xs : List Event) → take i (take (i + 1) xs) ≡ take i xs
    taken i xs = taken_more i 1 xs

    dropped : (i n : ℕ) (xs : List Event) → drop i (take (i + n) xs) ≡ take n (drop i xs)
    dropped i n xs = drop-take i n xs

-- the same among those from a start on
pub put_later_behind : (xs ys : List Event) (s i k : ℕ) (e : Event) → s ≤ length xs → i < k → k ≤ length (drop s xs) → ys ≡ copy_within xs ((s + i) + 1) (s + k) (s + i) → drop s (set ys ((s + k) - 1) e) ≡ put_at (k - 1) (e ∷ []) (remove (drop s xs) i)
put_later_behind xs ys s i k e l h m is =
    let n = k - (i + 1) in
    let rest = length-drop s xs in
    let end : s + k ≡ ((s + i) + 1) + n = omega arith in
    let last : (s + k) - 1 ≡ (s + i) + n = omega arith in
    let place : (s + i) + n ≡ s + (k - 1) = omega arith in
    let long = length-remove xs (s + i) (omega arith) in
    let left = length-drop s (remove xs (s + i)) in
    let all : set ys ((s + k) - 1) e ≡ put_at (s + (k - 1)) (e ∷ []) (remove xs (s + i)) =
    ap (λ (zs : List Event). set zs ((s + k) - 1) e) (is ∙ ap (λ j. copy_within xs ((s + i) + 1) j (s + i)) end)
    ∙ ap (λ j. set (copy_within xs ((s + i) + 1) (((s + i) + 1) + n) (s + i)) j e) last
    ∙ put_later xs (s + i) n e (omega arith)
    ∙ ap (λ j. put_at j (e ∷ []) (remove xs (s + i))) place in
    (put_by s (k - 1) (remove xs (s + i)) (set ys ((s + k) - 1) e) (e ∷ []) (omega arith) (omega arith) all).behind
    ∙ ap (λ (zs : List Event). put_at (k - 1) (e ∷ []) zs) (remove_behind s i xs l)

pub put_sooner_behind : (xs ys : List Event) (s i k : ℕ) (e : Event) → s ≤ length xs → k ≤ i → i < length (drop s xs) → ys ≡ copy_within xs (s + k) (s + i) ((s + k) + 1) → drop s (set ys (s + k) e) ≡ put_at k (e ∷ []) (remove (drop s xs) i)
put_sooner_behind xs ys s i k e l h m is =
    let n = i - k in
    let rest = length-drop s xs in
    let end : s + i ≡ (s + k) + n = omega arith in
    let long = length-remove xs (s + i) (omega arith) in
    let left = length-drop s (remove xs (s + i)) in
    let all : set ys (s + k) e ≡ put_at (s + k) (e ∷ []) (remove xs (s + i)) =
    ap (λ (zs : List Event). set zs (s + k) e) (is ∙ ap (λ j. copy_within xs (s + k) j ((s + k) + 1)) end)
    ∙ put_sooner xs (s + k) n e (omega arith)
    ∙ ap (λ j. put_at (s + k) (e ∷ []) (remove xs j)) (sym end) in
    (put_by s k (remove xs (s + i)) (set ys (s + k) e) (e ∷ []) (omega arith) (omega arith) all).behind
    ∙ ap (λ (zs : List Event). put_at k (e ∷ []) zs) (remove_behind s i xs l)

-- ---- a block written over others, one more of it

pub written_none : (at : ℕ) (xs : List Event) (first : Event) → xs ≡ written at (block first 0) 0 xs
unfolding block
written_none at xs first = let same : at + 0 ≡ at = omega arith in rw same (sym (take-append-drop at xs))

pub written_more : (at i : ℕ) (xs : List Event) (first : Event) → at + i < length xs → set (written at (block first i) i xs) (at + i) (record first { id = first.id + i }) ≡ written at (block first (i + 1)) (i + 1) xs
written_more at i xs first l =
    let next : Event = record first { id = first.id + i } in
    let front = take at xs ++ block first i in
    let rest = drop (at + i) xs in
    let front_long : length front ≡ at + i = omega (arith, length-append (take at xs) (block first i), length-take-le at xs (omega arith), length-block first i) in
    let split : written at (block first i) i xs ≡ front ++ rest = sym (append_assoc (take at xs) (block first i) rest) in
    let long : at + i < length (front ++ rest) = omega (arith, length-append front rest, length-drop (at + i) xs) in
    let last : suc (at + i) ≡ (at + i) + 1 = omega arith in
    let ends : (at + i) + 1 ≡ at + (i + 1) = omega arith in
    let behind : drop (suc (at + i)) (front ++ rest) ≡ drop (at + (i + 1)) xs =
    ap (λ k. drop k (front ++ rest)) last
    ∙ sym (drop-drop 1 (at + i) (front ++ rest))
    ∙ ap (λ (zs : List Event). drop 1 zs) (drop_at front rest (at + i) front_long)
    ∙ drop-drop 1 (at + i) xs ∙ ap (λ k. drop k xs) ends in
    ap (λ (zs : List Event). set zs (at + i) next) split
    ∙ set_split (front ++ rest) (at + i) next long
    ∙ (rw (take_at front rest (at + i) front_long, behind) refl)
    ∙ append_assoc (take at xs) (block first i) (next ∷ drop (at + (i + 1)) xs)
    ∙ ap (λ (zs : List Event). take at xs ++ zs) (sym (append_assoc (block first i) (next ∷ []) (drop (at + (i + 1)) xs)))
    ∙ ap (λ (zs : List Event). take at xs ++ (zs ++ drop (at + (i + 1)) xs)) (sym (block-more first i))

-- ---- a place, once another event is out

all_left : (P : Event → Type 0) (n : ℕ) (es : List Event) → AllByRecursion P es → AllByRecursion P (remove es n)
all_left P n es w = all_joined P (take n es) (drop (suc n) es) (all_after_taken P n es w) (all_dropped P (suc n) es w)

-- of these, the first n have the one and the others have the other
record Parted (P Q : Event → Type 0) (n : ℕ) (es : List Event) : Type 0 where
  below : AllByRecursion P (take n es)
  above : AllByRecursion Q (drop n es)

parted_sooner : (P Q : Event → Type 0) (n i : ℕ) (es : List Event) → n ≤ i → AllByRecursion P (take n es) → AllByRecursion Q (drop n es) → Parted P Q n (remove es i)
parted_sooner P Q zero i es l v w = record { below = tt; above = all_left Q i es w }
parted_sooner P Q (suc n) zero es l v w = absurd (omega arith)
parted_sooner P Q (suc n) (suc i) [] l v w = record { below = tt; above = tt }
parted_sooner P Q (suc n) (suc i) (x ∷ es) l v w =
    let rest = parted_sooner P Q n i es (omega arith) v.1 w in
    record { below = (v.0, rest.below); above = rest.above }

parted_later : (P Q : Event → Type 0) (n i : ℕ) (es : List Event) → i ≤ n → AllByRecursion P (take (suc n) es) → AllByRecursion Q (drop (suc n) es) → Parted P Q n (remove es i)
parted_later P Q zero zero [] l v w = record { below = tt; above = tt }
parted_later P Q (suc n) zero [] l v w = record { below = tt; above = tt }
parted_later P Q n zero (x ∷ es) l v w = record { below = v.1; above = w }
parted_later P Q zero (suc i) es l v w = absurd (omega arith)
parted_later P Q (suc n) (suc i) [] l v w = record { below = tt; above = tt }
parted_later P Q (suc n) (suc i) (x ∷ es) l v w =
    let rest = parted_later P Q n i es (omega arith) v.1 w in
    record { below = (v.0, rest.below); above = rest.above }

pub place_sooner : (es : List Event) (e : Event) (n i : ℕ) → n ≤ i → i < length es → IsPlaceOf es e n → IsPlaceOf (remove es i) e n
place_sooner es e n i l h p =
    let parts = parted_sooner (λ x. before x e ≡ true) (λ x. before x e ≡ false) n i es l p.below p.above in
    record { within = omega (arith, length-remove es i h); below = parts.below; above = parts.above }

pub place_later : (es : List Event) (e : Event) (n i : ℕ) → i < n → i < length es → IsPlaceOf es e n → IsPlaceOf (remove es i) e (n - 1)
place_later es e zero i l h p = absurd (omega arith)
place_later es e (suc n) i l h p =
    let parts = parted_later (λ x. before x e ≡ true) (λ x. before x e ≡ false) n i es (omega arith) p.below p.above in
    let long = length-remove es i h in
    let within = p.within in
    let is : suc n - 1 ≡ n = omega arith in
    rw is (record { within = omega arith; below = parts.below; above = parts.above })

-- ---- one in the place of another, in order

-- once the one is out, the other is not there
pub none_left : (es : List Event) (old new e : Event) (i : ℕ) → Ascending es → IsFoundAt es old i → (has es new && not (same old new)) ≡ false → in_block new 1 e ≡ true → has (remove es i) e ≡ false
none_left es old new e i w f none h = same_has (remove es i) new e (itself new e h) ∙ has-removed i es old new new w f.within (f.there new) ∙ none
  where
    itself : (a b : Event) → in_block a 1 b ≡ true → same a b ≡ true
    itself a b h = grind (arith, nat_tests)

pub is_replaced : (es : List Event) (old new e : Event) (i : ℕ) (b : Bool) → Ascending es → IsFoundAt es old i → b ≡ (in_block new 1 e || has (remove es i) e) → b ≡ (same new e || (has es e && not (same old e)))
is_replaced es old new e i b w f is =
    is
    ∙ ap (λ k. k || has (remove es i) e) (alone new e)
    ∙ ap (λ k. same new e || k) (has-removed i es old e e w f.within (f.there e))
  where
    alone : (a b : Event) → in_block a 1 b ≡ same a b
    alone a b = grind (arith, nat_tests)

pub has-one_put : (es : List Event) (new e : Event) (p : ℕ) → has (put_at p (new ∷ []) es) e ≡ (in_block new 1 e || has es e)
has-one_put es new e p = ap (λ (bs : List Event). has (put_at p bs es) e) (sym (block-one new)) ∙ has-put p es new 1 e

pub ascending_one_put : (es : List Event) (new : Event) (p : ℕ) → Ascending es → IsPlaceOf es new p → ((e : Event) → in_block new 1 e ≡ true → has es e ≡ false) → Ascending (put_at p (new ∷ []) es)
ascending_one_put es new p w place none = subst (λ (bs : List Event). Ascending (put_at p bs es)) (block-one new) (ascending_put p es new 1 w place none)
