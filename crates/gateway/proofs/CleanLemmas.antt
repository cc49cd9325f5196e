-- Feeds that are whole and without a refused line.
use Rattle.std.proofs.Common.{◌≡◌, Bool, true, false, ◌&&◌, List, [], ◌∷◌, map, ap, ◌∙◌, refl}
use Rattle.std.specs.List.{list_all}
use Rattle.cmd_run.specs.declared.ending.SenderReport.{SenderReport}
use Rattle.cmd_answer.specs.Printed.{is_whole}

-- the order of four tests does not matter
and_swap : (a b c d : Bool) → ((a && b) && (c && d)) ≡ ((a && c) && (b && d))
and_swap false b c d = refl
and_swap true true c d = refl
and_swap true false true d = refl
and_swap true false false d = refl

-- all feeds are whole and clean where all are whole and all are clean
pub whole_and_clean : {F : Type 0} (report : F → SenderReport) (clean : F → Bool) (feeds : List F) → list_all (λ f. is_whole (report f).ending && clean f) feeds ≡ (list_all (λ r. is_whole r.ending) (map report feeds) && list_all (λ c. c) (map clean feeds))
whole_and_clean report clean [] = refl
whole_and_clean report clean (f ∷ feeds) =
    ap (λ (b : Bool). (is_whole (report f).ending && clean f) && b) (whole_and_clean report clean feeds)
    ∙ and_swap (is_whole (report f).ending) (clean f) (list_all (λ r. is_whole r.ending) (map report feeds)) (list_all (λ c. c) (map clean feeds))
