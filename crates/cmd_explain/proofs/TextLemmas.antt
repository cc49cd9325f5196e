-- Texts that grow by one part after another.
use Rattle.std.proofs.Common.{◌≡◌, ℕ, ◌+◌, ◌≤◌, ◌-◌, List, [], ◌∷◌, ◌++◌, length, get_or, take, drop, map, Option, ap, sym, ◌∙◌, arith}
use Rattle.std.specs.Prelude.{IfSome}
use Rattle.std.specs.Borrow.{Bor}
use Rattle.std.specs.List.{flat_map}
use Rattle.std.proofs.lemmas.List.{take_all}
use Rattle.std.proofs.lemmas.List.Folds.{flat_map-map}
use Rattle.cmd_explain.specs.Asked.{or_line, asked_text}

-- the text of words, of which there is one at least
pub asked_words : (words : List (Bor (List ℕ))) (d : Bor (List ℕ)) (input : Option (List ℕ)) (text : List ℕ) → 1 ≤ length words → text ≡ or_line ((get_or words 0 d).now ++ flat_map (λ w. 32 ∷ w.now) (take (length words - 1) (drop 1 words))) → IfSome (asked_text (map (λ w. w.now) words) input) (λ asked. text ≡ asked)
asked_words [] d input text some is = absurd (omega arith)
asked_words (word ∷ words) d input text some is =
    let others : take (length (word ∷ words) - 1) words ≡ words = take_all (length (word ∷ words) - 1) words (omega arith) in
    is
    ∙ ap (λ (ws : List (Bor (List ℕ))). or_line (word.now ++ flat_map (λ (w : Bor (List ℕ)). 32 ∷ w.now) ws)) others
    ∙ ap (λ (t : List ℕ). or_line (word.now ++ t)) (sym (flat_map-map (λ (w : List ℕ). 32 ∷ w) (λ (w : Bor (List ℕ)). w.now) words))
