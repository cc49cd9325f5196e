-- The parts of a text between bytes of a kind, one by one.
use Rattle.std.proofs.Common.{◌≡◌, ℕ, ◌+◌, ◌<◌, Option, Some, None, List, [], ◌∷◌, length, refl, ap, sym, ◌∙◌, Bool, true, false, arith, inl, inr, ◌==◌, if◌then◌else◌}
use Rattle.std.specs.List.{slice_split, onto_first}
use Rattle.std.proofs.lemmas.Bool.Decides.{eqb_tells}
use Rattle.cmd_types.specs.Cuts.{before, after}
use Rattle.cmd_types.specs.TextLines.{left}
use Rattle.mon_inventory.specs.Texts.{items, parts_left}

-- the first part, and the others
pub parts_cut : (b : ℕ) (xs : List ℕ) → slice_split (λ x. x == b) xs ≡ before b xs ∷ parts_left b (after b xs)
parts_cut b [] = refl
parts_cut b (x ∷ xs) =
    elim (eqb_tells x b) [
      | inl h ↦ rw h.0 refl
      | inr h ↦ rw h.0 (ap (onto_first x) (parts_cut b xs))
    ]

after_short : (b : ℕ) (xs ys : List ℕ) → after b xs ≡ Some ys → length ys < length xs
after_short b [] ys e = absurd (cc)
after_short b (x ∷ xs) ys e =
    elim (eqb_tells x b) [
      | inl h ↦ (let f : Some xs ≡ Some ys = rw h.0 at e in let g : xs ≡ ys = cc in omega (arith, ap length g))
      | inr h ↦ (let f : after b xs ≡ Some ys = rw h.0 at e in let r = after_short b xs ys f in omega arith)
    ]

left_falls : (xs : List ℕ) (o : Option (List ℕ)) → o ≡ after 44 xs → left o < 1 + length xs
left_falls xs None e = omega arith
left_falls xs (Some ys) e = let short = after_short 44 xs ys (sym e) in omega arith

pub left_less : (o p : Option (List ℕ)) (xs : List ℕ) → o ≡ Some xs → p ≡ after 44 xs → left p < left o
left_less o p xs is e = rw is (left_falls xs p e)

-- one part and what follows it
pub parts_next : (b : ℕ) (o p : Option (List ℕ)) (xs front : List ℕ) → o ≡ Some xs → front ≡ before b xs → p ≡ after b xs → parts_left b o ≡ front ∷ parts_left b p
parts_next b o p xs front is e f = rw (is, e, f) (parts_cut b xs)

pub items_first : (o : Option (List ℕ)) (text : List ℕ) → o ≡ (if length text == 0 then None else Some text) → items text ≡ parts_left 44 o
unfolding items
items_first o text e = by (length text == 0) ∙ ap (parts_left 44) (sym e)
  where
    by : (t : Bool) → (if t then [] else slice_split (λ b. b == 44) text) ≡ parts_left 44 (if t then None else Some text)
    by true = refl
    by false = refl
