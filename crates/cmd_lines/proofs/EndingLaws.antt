-- How a text ended decides over its last line alone.
use Rattle.std.proofs.Common.{◌≡◌, ℕ, ◌+◌, List, [], ◌∷◌, ◌++◌, length, sym, ap, ◌∙◌, arith, append_assoc}
use Rattle.cmd_types.specs.Bytes.{Lacks}
use Rattle.cmd_lines.specs.declared.phase.Phase.{Phase}
use Rattle.cmd_lines.specs.declared.phase.Phase.TheVariants.{Finished}
use Rattle.cmd_lines.specs.declared.item.Item.{Item}
use Rattle.cmd_types.specs.TextLines.{split_lines, joined, AreParts}
use Rattle.cmd_lines.specs.Items.{line_items, last_items, items_from, known, items}
use Rattle.cmd_lines.proofs.PassLaws.{first_line, last_is}
use Rattle.cmd_types.specs.Laws.{Laws}

-- the parts of a text, and one more behind a line feed
after_parts : Laws → (p : Phase) (n : ℕ) (ps : List (List ℕ)) (last : List ℕ) → AreParts ps → Lacks 10 last
    → items_from p n (joined ps ++ (10 ∷ last)) ≡ items_from Finished n (joined ps) ++ last_items p (n + length ps) last
after_parts laws p n [] last are lacks = absurd are
after_parts laws p n (line ∷ []) last are lacks =
    first_line laws p n line last are
    ∙ ap (λ (r : List Item). line_items n line ++ r) (last_is laws p (n + 1) last lacks)
    ∙ ap (λ (r : List Item). r ++ last_items p (n + 1) last) (sym (last_is laws Finished n line are))
after_parts laws p n (line ∷ (next ∷ others)) last are lacks =
    let later = after_parts laws p (n + 1) (next ∷ others) last are.1 lacks in
    let rest = joined (next ∷ others) in
    let count : (n + 1) + length (next ∷ others) ≡ n + length (line ∷ (next ∷ others)) = omega arith in
    ap (items_from p n) (append_assoc line (10 ∷ rest) (10 ∷ last))
    ∙ first_line laws p n line (rest ++ (10 ∷ last)) are.0
    ∙ ap (λ (r : List Item). line_items n line ++ r) later
    ∙ sym (append_assoc (line_items n line) (items_from Finished (n + 1) rest) (last_items p ((n + 1) + length (next ∷ others)) last))
    ∙ ap (λ (r : List Item). r ++ last_items p ((n + 1) + length (next ∷ others)) last) (sym (first_line laws Finished n line rest are.0))
    ∙ ap (λ (k : ℕ). items_from Finished n (line ++ (10 ∷ rest)) ++ last_items p k last) count

pub ended_is : Laws → (p : Phase) (text last : List ℕ) → Lacks 10 last → known p (text ++ (10 ∷ last)) ≡ items text ++ last_items p (1 + length (split_lines text)) last
ended_is laws p text last lacks =
    let are = laws.lines.parts text in
    let later = after_parts laws p 1 (split_lines text) last are.0 lacks in
    ap (λ (t : List ℕ). known p (t ++ (10 ∷ last))) (sym are.1) ∙ later ∙ ap (λ (t : List ℕ). items t ++ last_items p (1 + length (split_lines text)) last) are.1
