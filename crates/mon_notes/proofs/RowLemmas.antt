-- A list whose front is left out, and what a turn of a part of it leaves.
use Rattle.std.proofs.Common.{◌≡◌, ℕ, zero, suc, ◌+◌, ◌-◌, ◌<◌, List, [], ◌∷◌, ◌++◌, length, take, drop, refl, sym, ap, ◌∙◌, arith}
use Rattle.std.specs.List.{remove}
use Rattle.std.proofs.lemmas.List.{drop-take, length-take-le, take-append-le, length-drop, append_assoc, length-append}
use Rattle.std.proofs.Math.Seq.{take-add, take-length, drop-append-add, drop-append_seam}
use borrow.Rule.Slice.PartMut.{put_mid}

-- what was taken out behind the front
pub taken_back : {X : Type 0} (s a : ℕ) (xs : List X) → drop s (remove xs (s + a)) ≡ remove (drop s xs) a
taken_back zero a xs = let at : 0 + a ≡ a = omega arith in rw at refl
taken_back (suc s) zero [] = let at : suc s + 0 ≡ suc (s + 0) = omega arith in rw at refl
taken_back (suc s) (suc a) [] = let at : suc s + suc a ≡ suc (s + suc a) = omega arith in rw at refl
taken_back (suc s) a (x ∷ xs) = let at : suc s + a ≡ suc (s + a) = omega arith in rw at (taken_back s a xs)

-- the last of the first a + 1 stands before the others after a turn of these to the right
turned : {X : Type 0} (a : ℕ) (ys new : List X) → a < length ys
    → new ≡ drop (length (take (a + 1) ys) - 1) (take (a + 1) ys) ++ take (length (take (a + 1) ys) - 1) (take (a + 1) ys)
    → new ≡ take 1 (drop a ys) ++ take a ys
turned a ys new h is =
    let long : length (take (a + 1) ys) - 1 ≡ a = omega (arith, length-take-le (a + 1) ys (omega arith)) in
    let first : length (take a ys) ≡ a = length-take-le a ys (omega arith) in
    let front : take a (take (a + 1) ys) ≡ take a ys = ap (take a) (take-add a 1 ys) ∙ take-append-le a (take a ys) (take 1 (drop a ys)) (omega arith) ∙ ap (λ n. take n (take a ys)) (sym first) ∙ take-length (take a ys) in
    is ∙ rw (long, drop-take a 1 ys, front) refl

pub taken_forward : {X : Type 0} (s a k : ℕ) (xs ws new : List X) → ws ≡ xs → k ≡ a + 1 → s + a < length xs
    → new ≡ drop (length (take k (drop s ws)) - 1) (take k (drop s ws)) ++ take (length (take k (drop s ws)) - 1) (take k (drop s ws))
    → (length (put_mid s k ws new) ≡ length xs) × (drop (s + 1) (put_mid s k ws new) ≡ remove (drop s xs) a)
taken_forward {X = X} s a k xs ws new same count h is =
    rw (same, count) (by (rw (same, count) at is))
  where
    by : new ≡ drop (length (take (a + 1) (drop s xs)) - 1) (take (a + 1) (drop s xs)) ++ take (length (take (a + 1) (drop s xs)) - 1) (take (a + 1) (drop s xs))
        → (length (put_mid s (a + 1) xs new) ≡ length xs) × (drop (s + 1) (put_mid s (a + 1) xs new) ≡ remove (drop s xs) a)
    by is =
        let ys = drop s xs in
        let long : a < length ys = omega (arith, length-drop s xs) in
        let before : length (take s xs) ≡ s = length-take-le s xs (omega arith) in
        let one : length (take 1 (drop a ys)) ≡ 1 = length-take-le 1 (drop a ys) (omega (arith, length-drop a ys)) in
        let new_is = turned a ys new long is in
        let many : length new ≡ a + 1 = ap length new_is ∙ length-append (take 1 (drop a ys)) (take a ys) ∙ (omega (arith, one, length-take-le a ys (omega arith))) in
        let behind = length-append new (drop (a + 1) ys) in (
          length-append (take s xs) (new ++ drop (a + 1) ys) ∙ (omega (arith, before, many, behind, length-drop (a + 1) ys, length-drop s xs)),
          ap (λ n. drop (n + 1) (take s xs ++ (new ++ drop (a + 1) ys))) (sym before)
              ∙ drop-append-add (take s xs) (new ++ drop (a + 1) ys) 1
              ∙ ap (λ (zs : List X). drop 1 (zs ++ drop (a + 1) ys)) new_is
              ∙ ap (drop 1) (append_assoc (take 1 (drop a ys)) (take a ys) (drop (a + 1) ys))
              ∙ ap (λ n. drop n (take 1 (drop a ys) ++ (take a ys ++ drop (a + 1) ys))) (sym one)
              ∙ drop-append_seam (take 1 (drop a ys)) (take a ys ++ drop (a + 1) ys)
              ∙ ap (λ n. take a ys ++ drop n ys) (let next : a + 1 ≡ suc a = omega arith in next),
        )
