-- The feeds of a run: new feeds come in the order of the call.
use Rattle.std.proofs.Common.{◌≡◌, ◌<◌, ◌≤◌, ℕ, zero, suc, Bool, true, false, if◌then◌else◌, List, [], ◌∷◌, ◌++◌, length, map, take, drop, refl, sym, ap, ◌∙◌, subst, arith, append_assoc}
use Rattle.std.proofs.lemmas.List.{drop_at}
use Rattle.cmd_recovery.specs.declared.feeds.assigned.Role.{Role}
use Rattle.cmd_recovery.specs.declared.feeds.assigned.Role.TheVariants.{Given, Clock}
use Rattle.cmd_recovery.specs.Assigns.{AreAbove, AreInOrder, places_to, AllAbove, Ascend}

above_append : (i : ℕ) (xs ys : List ℕ) → AllAbove i xs → AllAbove i ys → AllAbove i (xs ++ ys)
above_append i [] ys front back = back
above_append i (x ∷ xs) ys front back = (front.0, above_append i xs ys front.1 back)

above_without : (i : ℕ) (xs : List ℕ) (at : ℕ) → AllAbove i xs → AllAbove i (take at xs ++ drop (suc at) xs)
above_without i [] zero all = tt
above_without i [] (suc at) all = tt
above_without i (x ∷ xs) zero all = all.1
above_without i (x ∷ xs) (suc at) all = (all.0, above_without i xs at all.1)

-- without one of the numbers the others still ascend
pub ascend_without : (xs : List ℕ) (at : ℕ) → Ascend xs → Ascend (take at xs ++ drop (suc at) xs)
ascend_without [] zero all = tt
ascend_without [] (suc at) all = tt
ascend_without (x ∷ xs) zero all = all.1
ascend_without (x ∷ xs) (suc at) all = (above_without x xs at all.0, ascend_without xs at all.1)

abbrev AllBelow : (n : ℕ) → List ℕ → Type 0
AllBelow n [] = Unit {0}
AllBelow n (x ∷ xs) = (x < n) × AllBelow n xs

ascend_push : (xs : List ℕ) (n : ℕ) → Ascend xs → AllBelow n xs → Ascend (xs ++ n ∷ [])
ascend_push [] n at low = (tt, tt)
ascend_push (x ∷ xs) n at low = (above_append x xs (n ∷ []) at.0 (low.0, tt), ascend_push xs n at.1 low.1)

below_push : (n m : ℕ) (xs : List ℕ) → n ≤ m → AllBelow n xs → n < m → AllBelow m (xs ++ n ∷ [])
below_push n m [] le low lt = (lt, tt)
below_push n m (x ∷ xs) le low lt = ((let less = low.0 in omega (arith, less, le)), below_push n m xs le low.1 lt)

places_below : (n : ℕ) → AllBelow n (places_to n)
places_below zero = tt
places_below (suc n) = below_push n (suc n) (places_to n) (omega arith) (places_below n) (omega arith)

pub places_ascend : (n : ℕ) → Ascend (places_to n)
places_ascend zero = tt
places_ascend (suc n) = ascend_push (places_to n) n (places_ascend n) (places_below n)

-- ---- roles

above_with : (i : ℕ) (free : List ℕ) (asks : Bool) → AllAbove i free → AreAbove i (map Given free ++ (if asks then Clock ∷ [] else []))
above_with i [] true all = tt
above_with i [] false all = tt
above_with i (x ∷ free) asks all = (all.0, above_with i free asks all.1)

in_order : (free : List ℕ) (asks : Bool) → Ascend free → AreInOrder (map Given free ++ (if asks then Clock ∷ [] else []))
in_order [] true at = refl
in_order [] false at = tt
in_order (x ∷ free) asks at = (above_with x free asks at.0, in_order free asks at.1)

-- the new feeds come in order after those of the directory
pub new_in_order : (rs rs' rs'' : List Role) (free : List ℕ) (asks : Bool) (count : ℕ) → length rs ≡ count → rs' ≡ rs ++ map Given free → rs'' ≡ rs' ++ (if asks then Clock ∷ [] else []) → Ascend free → AreInOrder (drop count rs'')
new_in_order rs rs' rs'' free asks count same more last at =
    subst AreInOrder
    (sym (ap (drop count) (last ∙ ap (λ (l : List Role). l ++ (if asks then Clock ∷ [] else [])) more ∙ append_assoc rs (map Given free) (if asks then Clock ∷ [] else [])) ∙ drop_at rs (map Given free ++ (if asks then Clock ∷ [] else [])) count same))
    (in_order free asks at)
