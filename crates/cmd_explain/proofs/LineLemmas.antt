-- The lines of a text, without an empty one at its end.
use Rattle.std.proofs.Common.{◌≡◌, ℕ, ◌+◌, ◌==◌, true, false, List, [], ◌∷◌, Option, Some, None, length, refl, sym, ap, ◌∙◌, arith}
use Rattle.std.specs.Prelude.{is_some}
use Rattle.std.specs.Borrow.{Bor}
use Rattle.std.specs.List.{slice_split}
use Rattle.std.specs.Option.{option_copied}
use Rattle.std.proofs.lemmas.List.Splits.{length-slice_split}
use Rattle.cmd_types.specs.TextLines.{split_lines, lines_left}
use Rattle.cmd_explain.specs.Explained.{whole_lines}

before_others : (line : List ℕ) (lines : List (List ℕ)) (n : ℕ) → length lines ≡ n + 1 → whole_lines (line ∷ lines) ≡ line ∷ whole_lines lines
before_others line [] n e = absurd (omega (arith, e))
before_others line (next ∷ others) n e = refl

-- a line put before the lines of a text
pub before_text : (line text : List ℕ) → whole_lines (line ∷ split_lines text) ≡ line ∷ whole_lines (split_lines text)
unfolding split_lines
before_text line text = before_others line (slice_split (λ b. b == 10) text) _ (length-slice_split (λ b. b == 10) text)

-- a last line that is not empty
last_line : (line : List ℕ) → (length line == 0) ≡ false → whole_lines (line ∷ []) ≡ line ∷ []
last_line line some = rw some

-- a line that is not empty
pub some_line : (line : List ℕ) (old left : Option (List ℕ)) → lines_left old ≡ line ∷ lines_left left → (length line == 0) ≡ false → whole_lines (lines_left old) ≡ line ∷ whole_lines (lines_left left)
some_line line old None is some = ap whole_lines is ∙ last_line line some
some_line line old (Some text) is some = ap whole_lines is ∙ before_text line text

-- a line that is not the last
pub inner_line : (line : List ℕ) (old left : Option (List ℕ)) (rest : Option (Bor (List ℕ))) → lines_left old ≡ line ∷ lines_left left → option_copied rest ≡ left → is_some rest ≡ true → whole_lines (lines_left old) ≡ line ∷ whole_lines (lines_left left)
inner_line line old left None is same e = absurd cc
inner_line line old left (Some r) is same e = ap whole_lines is ∙ ap (λ (o : Option (List ℕ)). whole_lines (line ∷ lines_left o)) (sym same) ∙ before_text line r.now ∙ ap (λ (o : Option (List ℕ)). line ∷ whole_lines (lines_left o)) same
