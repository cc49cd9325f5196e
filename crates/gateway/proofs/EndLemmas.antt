-- The lines on feeds that have ended.
use Rattle.std.proofs.Common.{◌≡◌, ◌==◌, eq-eqb, ℕ, zero, suc, ◌+◌, ◌<◌, ◌≤◌, Bool, true, false, List, [], ◌∷◌, ◌++◌, length, map, take, drop, if◌then◌else◌, get_or, append_assoc, ap, sym, ◌∙◌, refl, arith, Option, Some, None}
use Rattle.std.proofs.lemmas.Bool.Decides.{nat_tests}
use Rattle.std.proofs.lemmas.List.{append-nil, drop_all, drop_more, length-map, get_or-map, take_all}
use Rattle.cmd_run.specs.declared.ending.SenderReport.{SenderReport}
use Rattle.cmd_options.specs.declared.mode.FollowCall.{FollowCall}
use Rattle.cmd_answer.specs.Printed.{feed_line}
use Rattle.gateway.specs.Followed.{given_feeds, with_clock, clock_after, ending_lines, drained_lines, end_line, end_lines, lines_due}

module _ {F : Type 0} (report : F → SenderReport) (clock : Option ℕ) where
  -- the line on one more feed was appended
  pub ends_turn : (now more all : List ℕ) (feeds : List F) (i : ℕ) (f : F) → i < length feeds → more ≡ now ++ end_line clock i (report (get_or feeds i f))
      → now ++ end_lines clock i (drop i (map report feeds)) ≡ all → more ++ end_lines clock (i + 1) (drop (i + 1) (map report feeds)) ≡ all
  unfolding end_lines
  ends_turn now more all feeds i f h is e =
      let reports = map report feeds in
      let r = report (get_or feeds i f) in
      let next : drop i reports ≡ r ∷ drop (i + 1) reports = drop_more reports i r (omega (arith, h, length-map feeds report)) ∙ ap (λ (x : SenderReport). x ∷ drop (i + 1) reports) (get_or-map report feeds i f r h) in
      ap (λ (xs : List ℕ). xs ++ end_lines clock (i + 1) (drop (i + 1) reports)) is
      ∙ append_assoc now (end_line clock i r) (end_lines clock (i + 1) (drop (i + 1) reports))
      ∙ sym (ap (λ (rs : List SenderReport). now ++ end_lines clock i rs) next) ∙ e

  -- the lines on all feeds were appended
  ends_last : (now all : List ℕ) (feeds : List F) (i : ℕ) → length feeds ≤ i → now ++ end_lines clock i (drop i (map report feeds)) ≡ all → now ≡ all
  unfolding end_lines
  ends_last now all feeds i h e = sym (append-nil now) ∙ sym (ap (λ (rs : List SenderReport). now ++ end_lines clock i rs) (drop_all i (map report feeds) (omega (arith, h, length-map feeds report)))) ∙ e

  -- these are the lines that are due where feeds are drained
  pub ends_due : (drain : Bool) (now : List ℕ) (feeds : List F) (i : ℕ) → drain ≡ true → length feeds ≤ i → now ++ end_lines clock i (drop i (map report feeds)) ≡ end_lines clock 0 (map report feeds) → now ≡ lines_due drain clock (map report feeds)
  ends_due drain now feeds i on h e =
      ends_last now (end_lines clock 0 (map report feeds)) feeds i h e ∙ sym (ap (λ (b : Bool). if b then end_lines clock 0 (map report feeds) else []) on)

-- without a clock feed each feed has its line
no_clock : (k : ℕ) (reports : List SenderReport) → end_lines None k reports ≡ ending_lines k reports
unfolding end_lines ending_lines
no_clock k [] = refl
no_clock k (r ∷ reports) = ap (λ (ls : List ℕ). feed_line k r.accepted r.ending ++ ls) (no_clock (k + 1) reports)

-- a clock feed that comes last has no line
clock_last : (c n k : ℕ) (reports : List SenderReport) → c ≡ k + n → length reports ≡ n + 1 → end_lines (Some c) k reports ≡ ending_lines k (take n reports)
unfolding end_lines ending_lines
clock_last c zero k [] is len = absurd (omega (arith, len))
clock_last c zero k (r ∷ []) is len =
    let same : (c == k) ≡ true = eq-eqb c k (omega (arith, is)) in
    ap (λ (b : Bool). (if b then [] else feed_line k r.accepted r.ending) ++ []) same
clock_last c zero k (r ∷ s ∷ reports) is len = absurd (omega (arith, len))
clock_last c (suc n) k [] is len = absurd (omega (arith, len))
clock_last c (suc n) k (r ∷ reports) is len =
    let other : (c == k) ≡ false = grind (arith, nat_tests, is) in
    ap (λ (b : Bool). (if b then [] else feed_line k r.accepted r.ending) ++ end_lines (Some c) (k + 1) reports) other
    ∙ ap (λ (ls : List ℕ). feed_line k r.accepted r.ending ++ ls) (clock_last c n (k + 1) reports (omega (arith, is)) (omega (arith, len)))

ends_of_given : (seconds given : ℕ) (clock : Option ℕ) (reports : List SenderReport) → clock ≡ clock_after seconds given → length reports ≡ with_clock seconds given → end_lines clock 0 reports ≡ ending_lines 0 (take given reports)
ends_of_given zero given clock reports is len =
    ap (λ (c : Option ℕ). end_lines c 0 reports) is ∙ no_clock 0 reports ∙ ap (ending_lines 0) (sym (take_all given reports (omega (arith, len))))
ends_of_given (suc seconds) given clock reports is len =
    ap (λ (c : Option ℕ). end_lines c 0 reports) is ∙ clock_last given given 0 reports (omega arith) len

-- where the clock feed, if there is one, comes after the feeds that the call names, these have their lines
pub due_of_given : (call : FollowCall) (clock : Option ℕ) (reports : List SenderReport) → clock ≡ clock_after call.following.clock (given_feeds call) → length reports ≡ with_clock call.following.clock (given_feeds call) → lines_due call.following.drain clock reports ≡ drained_lines call reports
due_of_given call clock reports is len =
    ap (λ (ls : List ℕ). if call.following.drain then ls else []) (ends_of_given call.following.clock (given_feeds call) clock reports is len)
