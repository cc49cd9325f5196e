-- One entry tells of one problem at most.
use Rattle.std.proofs.Common.{◌≡◌, ℕ, ◌+◌, ◌≤◌, Bool, true, false, List, [], ◌∷◌, ◌++◌, length, drop, Ok, All, count_by, cond, refl, ap, sym, ◌∙◌, subst, append_assoc, arith}
use Rattle.std.proofs.lemmas.List.Elements.{All-weaker}
use Rattle.std.proofs.lemmas.List.Sums.{sum_by-append}
use Rattle.std.proofs.lemmas.Option.{slice_get_within}
use Rattle.cmd_types.specs.declared.entry.Entry.{Entry}
use Rattle.mon_checks.specs.declared.transition.Change.{Change}
use Rattle.mon_checks.specs.States.{change_by}
use Rattle.mon_inventory.specs.Configuration.{Configuration}
use Rattle.mon_engine.specs.declared.notice.Notice.{Notice}
use Rattle.mon_engine.specs.declared.notice.Word.{Word}
use Rattle.mon_engine.specs.declared.notice.Word.TheVariants as words
use Rattle.mon_engine.specs.World.{World}
use Rattle.mon_engine.specs.Notices.{noticed}
use Rattle.mon_engine.specs.Results.{with_result, with_started}
use Rattle.mon_engine.specs.Acknowledgements.{acknowledge}
use Rattle.mon_engine.specs.Effects as acts
use Rattle.mon_engine.specs.Effects.{Act, act}
use Rattle.mon_engine.specs.Clock.{advanced}
use Rattle.mon_engine.specs.Laws.{moment_of}
use Rattle.mon_engine.specs.Step.{counted}
use Rattle.mon_engine.specs.Notices.{is_problem_word}
use Rattle.mon_engine.specs.NoticeLaws.{went_out, OneProblemAnEntry}
use Rattle.mon_engine.proofs.ActLemmas.{ok_is, acknowledge_cases, del_downtime_cases, noticed_cases, check_result_cases, act_leaves}
use Rattle.mon_engine.proofs.CountLemmas.{count_none}
use Rattle.mon_engine.proofs.EntryLemmas.{found, entry_cases}
use Rattle.mon_engine.proofs.NewsLemmas.{drop_front}
use Rattle.mon_engine.proofs.NoticeLemmas.{recovery_notice_as}
use Rattle.mon_engine.proofs.QuietLemmas.{IsOther, other_as, Quiet, quiet_same, quiet_more, acknowledgement_other, advanced_quiet, cancel_quiet, custom_quiet}
use Rattle.mon_engine.proofs.ToldLemmas.{started_before}

abbrev problems : List Notice → ℕ
problems ns = count_by (λ n. is_problem_word n.subject.word) ns

-- the first notices, and behind them others of which one is a PROBLEM at most
abbrev OneMore : (before after : List Notice) → Type 0
OneMore before after = (new : List Notice) × (after ≡ before ++ new) × (problems new ≤ 1)

pub problem_word : (word : Word) → is_problem_word word ≡ true → word ≡ words.Problem
problem_word words.Problem e = refl
problem_word word e = absurd (cc)

other_word : (word : Word) (b : Bool) → is_problem_word word ≡ b → (word ≡ words.Problem → ⊥) → b ≡ false
other_word word true e other = absurd (other (problem_word word e))
other_word word false e other = refl

none_in : (ns : List Notice) → All IsOther ns → problems ns ≡ 0
none_in ns h = count_none (λ n. is_problem_word n.subject.word) ns (All-weaker IsOther (λ n. is_problem_word n.subject.word ≡ false) (λ n other. other_word n.subject.word (is_problem_word n.subject.word) refl other) ns h)

both_in : (xs ys : List Notice) → problems (xs ++ ys) ≡ problems xs + problems ys
both_in xs ys = sum_by-append (λ (n : Notice). cond (is_problem_word n.subject.word) 1 0) xs ys

no_more : (before after : List Notice) → Quiet before after → OneMore before after
no_more before after q = (q.0, q.1, let none = none_in q.0 q.2 in omega (arith, none))

-- one notice behind others than PROBLEMs
one_more : (before after : List Notice) (n : Notice) → Quiet before after → OneMore before (after ++ n ∷ [])
one_more before after n q = (
  q.0 ++ n ∷ [],
  ap (λ (x : List Notice). x ++ n ∷ []) q.1 ∙ append_assoc before q.0 (n ∷ []),
  let none = none_in q.0 q.2 in let both = both_in q.0 (n ∷ []) in let one = one_in (is_problem_word n.subject.word) in omega (arith, none, both, one),
)
  where
    one_in : (b : Bool) → cond {A = ℕ} b 1 0 ≤ 1
    one_in true = omega arith
    one_in false = omega arith

noticed_one : (inv : Configuration) (v u : World) (object : ℕ) (change : Change) → Quiet v.notices u.notices → OneMore v.notices (noticed inv u object change).notices
noticed_one inv v u object change quiet = noticed_cases (λ (x : World). OneMore v.notices x.notices) inv u object change (no_more v.notices u.notices quiet)
    (λ spec o known at. no_more v.notices _ (quiet_more v.notices u.notices _ (other_as _ (λ k. absurd (cc)) (recovery_notice_as inv u object change.hard_recovery spec o (slice_get_within inv.objects object spec known))) quiet))
    (λ spec o known at n e. one_more v.notices u.notices n quiet)

act_one : (inv : Configuration) (v b : World) (a : Act) → act inv v a ≡ Ok b → OneMore v.notices b.notices
unfolding act
act_one inv v b (acts.Acknowledge object sticky notify persistent author text) e =
    acknowledge_cases (λ (x : World). OneMore v.notices x.notices) inv v b object sticky notify persistent author text e (λ o at problem. no_more v.notices v.notices (quiet_same v.notices))
    (λ o at problem. no_more v.notices _ (quiet_more v.notices v.notices _ (acknowledgement_other inv (acknowledge v object sticky persistent author text) object) (quiet_same v.notices)))
act_one inv v b (acts.CheckResult object code output) e = check_result_cases (λ (x : World). OneMore v.notices x.notices) inv v b object code output e
    (λ spec o known at. noticed_one inv v (with_started inv (with_result inv v object spec o code output) object) object (change_by o.status code) (started_before inv v (with_result inv v object spec o code output) object refl refl).quiet)
act_one inv v b (acts.DelDowntime kind id) e = del_downtime_cases (λ (x : World). OneMore v.notices x.notices) inv v b kind id e (λ there. no_more v.notices _ (cancel_quiet inv v id))
act_one inv v b (acts.SendCustom object options) e = ok_is (λ (x : World). OneMore v.notices x.notices) _ _ b refl e (no_more v.notices _ (custom_quiet inv v object options))
act_one inv v b a e = no_more v.notices b.notices (subst (Quiet v.notices) (sym (ap (λ (x : World). x.notices) (act_leaves inv v b a e))) (quiet_same v.notices))

-- what is due before an act and after it is no problem
closed_one : (inv : Configuration) (w b : World) (e : Entry) → OneMore (found inv w e).notices b.notices → problems (went_out w (advanced inv (counted b) (moment_of w e))) ≤ 1
closed_one inv w b e one =
    let first = advanced_quiet inv w (moment_of w e) in
    let last = advanced_quiet inv (counted b) (moment_of w e) in
    let all : (advanced inv (counted b) (moment_of w e)).notices ≡ w.notices ++ (first.0 ++ (one.0 ++ last.0)) =
    last.1 ∙ ap (λ (x : List Notice). x ++ last.0) one.1 ∙ ap (λ (x : List Notice). (x ++ one.0) ++ last.0) first.1
    ∙ append_assoc (w.notices ++ first.0) one.0 last.0 ∙ append_assoc w.notices first.0 (one.0 ++ last.0) in
    let out : went_out w (advanced inv (counted b) (moment_of w e)) ≡ first.0 ++ (one.0 ++ last.0) = ap (drop (length w.notices)) all ∙ drop_front w.notices (first.0 ++ (one.0 ++ last.0)) in
    let few = one.2 in
    let none_first = none_in first.0 first.2 in
    let none_last = none_in last.0 last.2 in
    let sum = both_in first.0 (one.0 ++ last.0) in
    let rest = both_in one.0 last.0 in
    let count : problems (first.0 ++ (one.0 ++ last.0)) ≤ 1 = omega (arith, few, none_first, none_last, sum, rest) in
    subst (λ (ns : List Notice). problems ns ≤ 1) (sym out) count

pub one_problem_an_entry : OneProblemAnEntry
one_problem_an_entry inv w e = entry_cases inv w e (λ p. problems (went_out w p.0) ≤ 1)
    (λ why. closed_one inv w _ e (no_more (found inv w e).notices (found inv w e).notices (quiet_same (found inv w e).notices)))
    (λ a b n h. closed_one inv w b e (act_one inv (found inv w e) b a h))
