-- Why `first_line` keeps its contract.
use Rattle.std.proofs.Common.{◌≡◌, ◌+◌, List, ℕ, length, sym, ap, ◌∙◌, arith}
use Rattle.std.proofs.lemmas.List.{take-append-drop, length-drop}
use Rattle.std.proofs.lemmas.Bool.{eqb-true, eqb-false}
use Rattle.cmd_lines.specs.Reading.{from}
use Rattle.cmd_lines.proofs.SkippedLaws.{none_opens, first_short, first_end}
use Rattle.cmd_lines.proofs.skip.first_line.Goals as goal

pub returns-then-is_empty-clause-none : goal.returns-then-is_empty-clause-none
returns-then-is_empty-clause-none c =
    let back = ap (λ (r : List ℕ). length r) c.split_before.ensures.back in
    let none = eqb-true _ _ (sym c.if-is_empty.ensures) in
    none_opens c.definitions_agree.ensures c.args.text.now (sym back ∙ none)

pub split_at-requires : goal.split_at-requires
split_at-requires c =
    let back = ap (λ (r : List ℕ). length r) c.split_before.ensures.back in
    let some = eqb-false _ _ (sym c.if-is_empty.ensures) in
    first_short c.args.text.now (length c.split_before.result.0.now) (ap (λ (r : List ℕ). length r) c.split_before.ensures.front) (λ none. some (back ∙ none))

pub returns-clause-some : goal.returns-clause-some
returns-clause-some c =
    let text = c.args.text.now in
    let k = length c.split_before.result.0.now in
    let back = ap (λ (r : List ℕ). length r) c.split_before.ensures.back in
    let front = ap (λ (r : List ℕ). length r) c.split_before.ensures.front in
    let empty = eqb-false _ _ (sym c.if-is_empty.ensures) in
    let some : (length (from 10 text) ≡ 0 → ⊥) = λ none. empty (back ∙ none) in
    let short = first_short text k front some in (
      rw (c.split_at.ensures.front, c.split_at.ensures.back) (sym (take-append-drop (k + 1) text)),
      rw c.split_at.ensures.front (first_end c.definitions_agree.ensures text k front some),
      omega (arith, short, ap (λ (r : List ℕ). length r) c.split_at.ensures.back, length-drop (k + 1) text),
    )
