-- The bytes of a pipe that are passed on.
use Rattle.std.proofs.Common.{◌≡◌, ◌+◌, ◌-◌, ◌++◌, ◌∙◌, ℕ, zero, suc, List, [], length, take, drop, refl, sym, ap, arith, append_assoc, Some, None}
use Rattle.cmd_types.specs.Cuts.{after}
use Rattle.cmd_live.specs.PipeTexts.{or_nothing, behind_lines}
use Rattle.std.proofs.lemmas.List.{take-append-drop, drop-drop}
use Rattle.std.proofs.Math.Seq.{drop-append_seam}

-- a list with this prefix is the prefix and the rest
beginning : (ys p more : List ℕ) (k : ℕ) → take k ys ≡ p ++ more → ys ≡ p ++ drop (length p) ys
beginning ys p more k e =
    let all : ys ≡ p ++ (more ++ drop k ys) = sym (take-append-drop k ys) ∙ ap (λ (l : List ℕ). l ++ drop k ys) e ∙ append_assoc p more (drop k ys) in
    let rest : drop (length p) ys ≡ more ++ drop k ys = ap (λ (l : List ℕ). drop (length p) l) all ∙ drop-append_seam p (more ++ drop k ys) in
    all ∙ ap (λ (l : List ℕ). p ++ l) (sym rest)

-- The copied bytes, followed by the bytes after them, are the bytes that were not passed on before. Of these bytes
-- `rest` could be passed on, and its part `more` was not copied
pub passed_on : (xs rest copied more : List ℕ) (g w : ℕ) → rest ≡ take (w - g) (drop g xs) → rest ≡ copied ++ more → drop g xs ≡ copied ++ drop (g + length copied) xs
passed_on xs rest copied more g w is cut =
    beginning (drop g xs) copied more (w - g) (sym is ∙ cut) ∙ ap (λ (l : List ℕ). copied ++ l) (drop-drop (length copied) g xs)

-- the number of lines `n` and `more` and one
abbrev pub further : (more n : ℕ) → ℕ
further zero n = suc n
further (suc more) n = suc (further more n)

pub further_is : (more n : ℕ) → further more n ≡ more + n + 1
further_is zero n = omega (arith)
further_is (suc more) n = omega (arith, further_is more n)

-- where no whole line is left after `n` lines, nothing is left after more lines
pub nothing_behind : (text : List ℕ) (more n : ℕ) → after 10 (behind_lines n text) ≡ None → behind_lines (further more n) text ≡ []
nothing_behind text zero n none = ap or_nothing none
nothing_behind text (suc more) n none = ap (λ (l : List ℕ). or_nothing (after 10 l)) (nothing_behind text more n none)
