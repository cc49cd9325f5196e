-- The lines of a text are its only parts without a line feed, and come one by one.
use Rattle.std.proofs.Common.{◌≡◌, ◌≢◌, ℕ, ◌+◌, ◌<◌, List, [], ◌∷◌, ◌++◌, length, Option, Some, None, refl, sym, ap, ◌∙◌, arith, inl, inr, length-append}
use Rattle.std.specs.List.{onto_first}
use Rattle.std.proofs.lemmas.Bool.{ne_eqb}
use Rattle.std.proofs.lemmas.Bool.Decides.{eqb_tells}
use Rattle.cmd_types.specs.Bytes.{Lacks}
use Rattle.cmd_types.specs.Cuts.{IsCut}
use Rattle.cmd_types.specs.TextLines.{split_lines, joined, AreParts, lines_left, left, IsFirstLine}

pub split_lines_ended : (line rest : List ℕ) → Lacks 10 line → split_lines (line ++ (10 ∷ rest)) ≡ line ∷ split_lines rest
unfolding split_lines
split_lines_ended [] rest lacks = refl
split_lines_ended (x ∷ line) rest lacks = rw (ne_eqb x 10 lacks.0) (ap (onto_first x) (split_lines_ended line rest lacks.1))

pub split_lines_last : (line : List ℕ) → Lacks 10 line → split_lines line ≡ line ∷ []
unfolding split_lines
split_lines_last [] lacks = refl
split_lines_last (x ∷ line) lacks = rw (ne_eqb x 10 lacks.0) (ap (onto_first x) (split_lines_last line lacks.1))

-- ---- the only parts

onto_parts : (x : ℕ) (ps : List (List ℕ)) → x ≢ 10 → AreParts ps → AreParts (onto_first x ps) × (joined (onto_first x ps) ≡ x ∷ joined ps)
onto_parts x [] ne h = absurd h
onto_parts x (p ∷ []) ne h = ((ne, h), refl)
onto_parts x (p ∷ (q ∷ ps)) ne h = (((ne, h.0), h.1), refl)

front_parts : (ps : List (List ℕ)) → AreParts ps → AreParts ([] ∷ ps) × (joined ([] ∷ ps) ≡ 10 ∷ joined ps)
front_parts [] h = absurd h
front_parts (p ∷ ps) h = ((tt, h), refl)

pub split_lines_are : (xs : List ℕ) → AreParts (split_lines xs) × (joined (split_lines xs) ≡ xs)
unfolding split_lines
split_lines_are [] = (tt, refl)
split_lines_are (x ∷ xs) =
    let later = split_lines_are xs in
    elim (eqb_tells x 10) [
      | inl h ↦ rw h.0 (let f = front_parts (split_lines xs) later.0 in (f.0, f.1 ∙ ap (λ (t : List ℕ). 10 ∷ t) later.1 ∙ ap (λ (b : ℕ). b ∷ xs) (sym h.1)))
      | inr h ↦ rw h.0 (let f = onto_parts x (split_lines xs) h.1 later.0 in (f.0, f.1 ∙ ap (λ (t : List ℕ). x ∷ t) later.1))
    ]

pub split_lines_only : (ps : List (List ℕ)) → AreParts ps → split_lines (joined ps) ≡ ps
split_lines_only [] h = absurd h
split_lines_only (p ∷ []) h = split_lines_last p h
split_lines_only (p ∷ (q ∷ ps)) h = split_lines_ended p (joined (q ∷ ps)) h.0 ∙ ap (λ (r : List (List ℕ)). p ∷ r) (split_lines_only (q ∷ ps) h.1)

-- ---- one by one

cut_lines : (text line : List ℕ) (rest : Option (List ℕ)) → Lacks 10 line → IsCut 10 text line rest → split_lines text ≡ line ∷ lines_left rest
cut_lines text line None lacks is = ap split_lines is ∙ split_lines_last line lacks
cut_lines text line (Some rest) lacks is = ap split_lines is ∙ split_lines_ended line rest lacks

cut_fewer : (text line : List ℕ) (rest : Option (List ℕ)) → IsCut 10 text line rest → left rest < 1 + length text
cut_fewer text line None is = omega arith
cut_fewer text line (Some rest) is = omega (arith, ap length is, length-append line (10 ∷ rest))

pub first_line : (old : Option (List ℕ)) (text line : List ℕ) (new : Option (List ℕ)) → old ≡ Some text → Lacks 10 line → IsCut 10 text line new → IsFirstLine old line new
first_line old text line new is lacks parts = record {
  text = text;
  is = is;
  parts = parts;
  one = lacks;
  lines = ap lines_left is ∙ cut_lines text line new lacks parts;
  fewer = rw is (cut_fewer text line new parts);
  fewer_lines = omega (arith, ap length (ap lines_left is ∙ cut_lines text line new lacks parts));
}
