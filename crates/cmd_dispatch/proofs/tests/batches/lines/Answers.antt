use Rattle.std.proofs.Common.{ℕ, List, ◌+◌, ◌++◌, ◌∷◌, [], ◌≡◌, codes, sym, ap, ◌∙◌, arith}
use Rattle.std.specs.Fmt.{decimal}
use Rattle.std.specs.List.{flat_map, range_with_len}
use Rattle.std.proofs.lemmas.Grind.{flat_map-append}
use Rattle.std.proofs.lemmas.List.{append-nil, map-id}
use Rattle.std.proofs.lemmas.List.FromFn.{map-range_with_len_more}
use Rattle.cmd_dispatch.proofs.tests.batches.lines.Goals as goal

abbrev spelled : ℕ → List ℕ
spelled time = codes "[" ++ (decimal time ++ (codes "] RESTART_PROGRAM" ++ 10 ∷ []))

range_more : (k : ℕ) → range_with_len 1 (k + 1) ≡ range_with_len 1 k ++ (k + 1) ∷ []
range_more k =
    sym (map-id (range_with_len 1 (k + 1))) ∙ map-range_with_len_more (λ (n : ℕ). n) 1 k (k + 1) (omega arith)
    ∙ ap (λ (xs : List ℕ). xs ++ (k + 1) ∷ []) (map-id (range_with_len 1 k))

more : (now next line : List ℕ) (k : ℕ) → now ≡ flat_map spelled (range_with_len 1 k) → next ≡ now ++ line → line ≡ spelled (k + 1) → next ≡ flat_map spelled (range_with_len 1 (k + 1))
more now next line k was grown is =
    let front = flat_map spelled (range_with_len 1 k) in
    grown ∙ ap (λ (xs : List ℕ). xs ++ line) was ∙ ap (λ (xs : List ℕ). front ++ xs) (is ∙ sym (append-nil (spelled (k + 1))))
    ∙ sym (ap (λ (xs : List ℕ). flat_map spelled xs) (range_more k) ∙ flat_map-append spelled (range_with_len 1 k) ((k + 1) ∷ []))

pub lines-preserved : goal.lines-preserved
lines-preserved c =
    more c.lines.text.items c.extend_from_slice.new.self.items c.as_bytes.result.now c.lines.before c.lines.invariant c.in_ok-extend_from_slice.ensures.items
    (c.as_bytes.ensures.value ∙ c.in_ok-line.ensures.ok)
