-- The lines on the feeds are appended one after another.
use Rattle.std.proofs.Common.{◌≡◌, ℕ, ◌+◌, ◌<◌, ◌≤◌, List, ◌∷◌, ◌++◌, length, drop, get_or, append_assoc, ap, sym, ◌∙◌}
use Rattle.std.proofs.lemmas.List.{append-nil, drop_all, drop_more}
use Rattle.cmd_run.specs.declared.ending.SenderReport.{SenderReport}
use Rattle.cmd_answer.specs.Printed.{feed_lines, sender_lines}

abbrev lines_of : ℕ → SenderReport → List ℕ
lines_of k r = feed_lines k r.accepted r.ending r.refused.items

pub lines_turn : (now more all : List ℕ) (reports : List SenderReport) (i : ℕ) (r : SenderReport) → i < length reports → r ≡ get_or reports i r → more ≡ now ++ lines_of i r → now ++ sender_lines i (drop i reports) ≡ all → more ++ sender_lines (i + 1) (drop (i + 1) reports) ≡ all
unfolding sender_lines
lines_turn now more all reports i r h at is e =
    let next : drop i reports ≡ r ∷ drop (i + 1) reports = drop_more reports i r h ∙ ap (λ (x : SenderReport). x ∷ drop (i + 1) reports) (sym at) in
    ap (λ (xs : List ℕ). xs ++ sender_lines (i + 1) (drop (i + 1) reports)) is
    ∙ append_assoc now (lines_of i r) (sender_lines (i + 1) (drop (i + 1) reports))
    ∙ sym (ap (λ (rs : List SenderReport). now ++ sender_lines i rs) next) ∙ e

pub lines_last : (now all : List ℕ) (reports : List SenderReport) (i : ℕ) → length reports ≤ i → now ++ sender_lines i (drop i reports) ≡ all → now ≡ all
unfolding sender_lines
lines_last now all reports i h e = sym (append-nil now) ∙ sym (ap (λ (rs : List SenderReport). now ++ sender_lines i rs) (drop_all i reports h)) ∙ e
