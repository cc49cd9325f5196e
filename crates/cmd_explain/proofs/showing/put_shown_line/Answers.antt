use Rattle.std.proofs.Common.{◌≡◌, ◌∙◌, ◌++◌, ◌∷◌, [], List, ℕ, ap, append_assoc, length, min, take, codes}
use Rattle.std.specs.List.{flat_map}
use Rattle.cmd_explain.specs.Shown.{shown_byte}
use Rattle.cmd_explain.specs.Words.{fault_words}
use Rattle.cmd_explain.specs.Meanings.{together}
use Rattle.cmd_explain.proofs.showing.put_shown_line.Goals as goal

-- two texts appended one after another are one appended text
behind : (x y a r : List ℕ) → y ≡ x ++ a → y ++ r ≡ x ++ (a ++ r)
behind x y a r is = ap (λ (l : List ℕ). l ++ r) is ∙ append_assoc x a r

pub returns : goal.returns
returns c =
    let shown : ℕ → List ℕ = λ n. flat_map shown_byte (take n c.args.line.now) in
    let first = shown (min (length c.args.line.now) 120) in
    let line = first ++ 10 ∷ [] in
    let words = together (fault_words c.args.fault) ++ (codes ": " ++ line) in
    c.in_ok-push.ensures.items
    ∙ behind _ _ first (10 ∷ []) (c.in_ok-put_bytes-2.ensures ∙ ap (λ (n : ℕ). c.extend_from_slice-3.new.self.items ++ shown n) c.min.ensures)
    ∙ behind _ _ (codes ": ") line c.in_ok-extend_from_slice-3.ensures.items
    ∙ behind _ _ (together (fault_words c.args.fault)) (codes ": " ++ line) c.in_ok-put_fault_words.ensures
    ∙ behind _ _ (codes ": ") words c.in_ok-extend_from_slice-2.ensures.items
    ∙ behind _ _ (flat_map shown_byte c.args.path.now) (codes ": " ++ words) c.in_ok-put_bytes.ensures
    ∙ behind _ _ (codes "    ") (flat_map shown_byte c.args.path.now ++ (codes ": " ++ words)) c.in_ok-extend_from_slice.ensures.items
