-- With a result that is no recovery the problem goes out exactly where no test of its notice fails.
use Rattle.std.proofs.Common.{◌≡◌, ◌≢◌, ℕ, Bool, true, false, ◌&&◌, not, eqb, nat_lt, if◌then◌else◌, List, [], ◌∷◌, length, Option, Some, None, slice_get, refl, ap, sym, ◌∙◌, subst}
use Rattle.std.proofs.lemmas.Bool.{and_right, ne_eqb}
use Rattle.std.proofs.lemmas.Option.{same_Some}
use Rattle.cmd_types.specs.declared.entry.Entry.{Entry}
use Rattle.mon_checks.specs.States.{change_by}
use Rattle.mon_inventory.specs.declared.records.ObjectSpec.{ObjectSpec}
use Rattle.mon_inventory.specs.Configuration.{Configuration, passive_hosts_soft}
use Rattle.mon_notify.specs.declared.facts.Facts.{Facts}
use Rattle.mon_notify.specs.Viable.{is_delayed, is_due, is_old, is_settled}
use Rattle.mon_engine.specs.declared.notices.Occasion.{Occasion}
use Rattle.mon_engine.specs.declared.notices.Occasion.TheVariants.{Check}
use Rattle.mon_engine.specs.declared.notice.Notice.{Notice}
use Rattle.mon_engine.specs.declared.object.Object.{Object}
use Rattle.mon_engine.specs.declared.outcome.Outcome.{Outcome}
use Rattle.mon_engine.specs.Objects.{host_is_up, object_after}
use Rattle.mon_engine.specs.World.{World}
use Rattle.mon_engine.specs.Notices.{addressed, of_object, problem_facts, problem_notice, with_problem}
use Rattle.mon_engine.specs.Results.{with_result, with_started, after_taken}
use Rattle.mon_engine.specs.Effects as acts
use Rattle.mon_engine.specs.Effects.{act}
use Rattle.mon_engine.specs.Clock.{advanced}
use Rattle.mon_engine.specs.Laws.{moment_of}
use Rattle.mon_engine.specs.Step.{counted}
use Rattle.mon_engine.specs.declared.withheld.Withheld.{Withheld}
use Rattle.mon_engine.specs.declared.withheld.Withheld.TheVariants.{Program, Switch, Downtime, Host, Letter, Acknowledged, Soft, NotBefore, Interval, Delay, Settle, Nobody}
use Rattle.mon_engine.specs.Withheld.{first_failing, next_problem, withheld_of, withheld}
use Rattle.mon_engine.specs.NoticeLaws.{went_out, with_result_at, TellsUnless, AProblemIsToldUnlessWithheld}
use Rattle.mon_engine.proofs.ActLemmas.{started_leaves, check_result_cases}
use Rattle.mon_engine.proofs.EntryLemmas.{found, kept_objects, applied_from}
use Rattle.mon_engine.proofs.FirstLemmas.{Any, went_through, started_more, code_after, noticed_problem}
use Rattle.mon_engine.proofs.ListLemmas.{changed_here}
use Rattle.mon_engine.proofs.NewsLemmas.{more_after, more_went, advanced_more}
use Rattle.mon_engine.proofs.QuietLemmas.{IsOther, Quiet, advanced_quiet}
use Rattle.mon_engine.proofs.ToldLemmas.{started_before}

-- ---- the notice

-- it is this one where nothing holds it back, and else there is none
abbrev pub IsUnless : Option Withheld → (problem : Notice) → Option Notice → Type 0
IsUnless None problem n = n ≡ Some problem
IsUnless (Some why) problem n = n ≡ None

tests : (a b c d e f g h i j k l m : Bool) (p : Notice)
    → IsUnless (first_failing ((a, Program) ∷ (b, Switch) ∷ (c && d, Downtime) ∷ (e, Host) ∷ (f, Letter) ∷ (g, Acknowledged) ∷ (h, Soft) ∷ (i, NotBefore) ∷ (j, Interval) ∷ (k, Delay) ∷ (l, Settle) ∷ (m, Nobody) ∷ [])) p
    (if (a && b && c && d) && e && f && g && h && i && j && k && l then (if m then Some p else None) else None)
tests false b c d e f g h i j k l m p = refl
tests true false c d e f g h i j k l m p = refl
tests true true false d e f g h i j k l m p = refl
tests true true true false e f g h i j k l m p = refl
tests true true true true false f g h i j k l m p = refl
tests true true true true true false g h i j k l m p = refl
tests true true true true true true false h i j k l m p = refl
tests true true true true true true true false i j k l m p = refl
tests true true true true true true true true false j k l m p = refl
tests true true true true true true true true true false k l m p = refl
tests true true true true true true true true true true false l m p = refl
tests true true true true true true true true true true true false m p = refl
tests true true true true true true true true true true true true false p = refl
tests true true true true true true true true true true true true true p = refl

pub problem_unless : (inv : Configuration) (u : World) (occasion : Occasion) (object : ℕ) (spec : ObjectSpec) (o : Object) → IsUnless (withheld_of inv u occasion object spec o) (next_problem inv u object spec o) (problem_notice inv u occasion object spec o)
unfolding problem_notice addressed
problem_unless inv u occasion object spec o =
    let f : Facts = problem_facts inv u occasion object spec o in
    let p : Notice = next_problem inv u object spec o in
    tests f.program_on f.object_on (eqb f.depth 0) (eqb f.host_depth 0) f.host_up f.letter_on (not f.acknowledged) f.hard (not (is_delayed f.not_before f.clock)) (is_due f) (is_old f) (is_settled f) (nat_lt 0 (length p.contacts)) p

-- ---- a result

pub withheld_is : (inv : Configuration) (u : World) (occasion : Occasion) (object : ℕ) (spec : ObjectSpec) (o : Object) → slice_get inv.objects object ≡ Some spec → slice_get u.objects object ≡ Some o → withheld inv u occasion object ≡ withheld_of inv u occasion object spec o
unfolding withheld
withheld_is inv u occasion object spec o known at =
    ap (λ (s : Option ObjectSpec). of_object None (withheld_of inv u occasion object) s (slice_get u.objects object)) known
    ∙ ap (λ (p : Option Object). of_object None (withheld_of inv u occasion object) (Some spec) p) at

taken_unless : (inv : Configuration) (w : World) (e : Entry) (object code : ℕ) (output : List ℕ) (spec : ObjectSpec) (o after : Object) → code ≢ 0 → slice_get inv.objects object ≡ Some spec → slice_get (found inv w e).objects object ≡ Some o
    → slice_get (with_result_at inv w e object code output spec o).objects object ≡ Some after
    → TellsUnless (withheld inv (with_result_at inv w e object code output spec o) Check object) (next_problem inv (with_result_at inv w e object code output spec o) object spec after)
    (went_out w (advanced inv (counted (after_taken inv (found inv w e) object code output spec o)) (moment_of w e)))
taken_unless inv w e object code output spec o after bad known at there =
    subst (λ (h : Option Withheld). TellsUnless h p (went_out w end)) (sym (withheld_is inv u Check object spec after known there)) (by (withheld_of inv u Check object spec after) (problem_unless inv u Check object spec after))
  where
    t : ℕ
    t = moment_of w e

    v : World
    v = found inv w e

    with_it : World
    with_it = with_result inv v object spec o code output

    u : World
    u = with_started inv with_it object

    b : World
    b = after_taken inv v object code output spec o

    end : World
    end = advanced inv (counted b) t

    p : Notice
    p = next_problem inv u object spec after

    o1 : Object
    o1 = object_after v.clock code output (host_is_up v.objects spec) (passive_hosts_soft inv) spec.max o

    is_o1 : o1 ≡ after
    is_o1 = same_Some o1 after (sym (ap (λ (x : World). slice_get x.objects object) (started_leaves inv with_it object) ∙ changed_here v.objects object (object_after v.clock code output (host_is_up v.objects spec) (passive_hosts_soft inv) spec.max) o at) ∙ there)

    problem : eqb code 0 ≡ false
    problem = ne_eqb code 0 bad

    told : b ≡ with_problem u object (problem_notice inv u Check object spec after)
    told = noticed_problem inv u object (change_by o.status code) spec after known there (and_right (not (eqb o.status.code 0)) (eqb code 0) problem)
        (ap (λ (x : Object). eqb x.status.code 0) (sym is_o1) ∙ ap (λ (c : ℕ). eqb c 0) (code_after o.status code (host_is_up v.objects spec) (passive_hosts_soft inv) spec.max) ∙ problem)

    quiet : Quiet w.notices u.notices
    quiet = more_after IsOther w.notices v.notices u.notices (advanced_quiet inv w t) (started_before inv v with_it object refl refl).quiet

    by : (h : Option Withheld) → IsUnless h p (problem_notice inv u Check object spec after) → TellsUnless h p (went_out w end)
    by None is = went_through w u b end p (more_after Any w.notices v.notices u.notices (advanced_more inv w t Any (λ n k. tt)) (started_more inv with_it object))
        (ap (λ (x : World). x.notices) told ∙ ap (λ (n : Option Notice). (with_problem u object n).notices) is) (advanced_more inv (counted b) t Any (λ n k. tt))
    by (Some why) is = more_went IsOther w end (more_after IsOther w.notices b.notices end.notices
        (subst (Quiet w.notices) (sym (ap (λ (x : World). x.notices) told ∙ ap (λ (n : Option Notice). (with_problem u object n).notices) is)) quiet) (advanced_quiet inv (counted b) t))

pub a_problem_is_told_unless_withheld : AProblemIsToldUnlessWithheld
unfolding act
a_problem_is_told_unless_withheld inv w e object code output spec before after applied asked bad known there left =
    let from = applied_from inv w e (acts.CheckResult object code output) applied asked in
    let u : World = with_result_at inv w e object code output spec before in
    let at : slice_get (found inv w e).objects object ≡ Some before = ap (λ (os : List Object). slice_get os object) (kept_objects inv w (moment_of w e)) ∙ there in
    let goal : World → Type 0 = λ (b : World). TellsUnless (withheld inv u Check object) (next_problem inv u object spec after) (went_out w (advanced inv (counted b) (moment_of w e))) in
    subst (λ (p : World × Outcome). TellsUnless (withheld inv u Check object) (next_problem inv u object spec after) (went_out w p.0)) (sym from.2)
    (check_result_cases goal inv (found inv w e) from.0 object code output from.1
    (λ s o of is. subst (λ (x : ObjectSpec). goal (after_taken inv (found inv w e) object code output x o)) (same_Some spec s (sym known ∙ of))
    (subst (λ (y : Object). goal (after_taken inv (found inv w e) object code output spec y)) (same_Some before o (sym at ∙ is))
    (taken_unless inv w e object code output spec before after bad known at left))))
