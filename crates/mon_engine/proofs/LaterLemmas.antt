-- A downtime that is active when a result comes, or that its problem starts, is active afterwards.
use Rattle.std.proofs.Common.{◌≡◌, inl, inr, ℕ, ◌+◌, ◌<◌, ◌≤◌, Bool, true, false, not, ◌&&◌, eqb, cond, if◌then◌else◌, Ok, List, [], ◌∷◌, ◌++◌, map, filter, get_or, Some, None, All, count_by, slice_get, refl, ap, sym, ◌∙◌, subst, arith}
use Rattle.std.specs.List.{flat_map}
use Rattle.std.proofs.lemmas.Bool.{and_parts, and_from, eq-eqb, eqb-true, not_from_false, false_from_ne_true, ne_eqb}
use Rattle.std.proofs.lemmas.List.Elements.{All-nil, All-cons, All-head, All-tail, All-weaker, All-from_recursion}
use Rattle.std.proofs.lemmas.List.Sums.{sum_by-cons}
use Rattle.std.proofs.lemmas.Option.{same_Some}
use Rattle.cmd_types.specs.declared.entry.Entry.{Entry}
use Rattle.mon_downtime.specs.declared.downtime.Downtime.{Downtime}
use Rattle.mon_downtime.specs.declared.downtime.Fate.{Fate}
use Rattle.mon_downtime.specs.declared.downtime.Fate.TheVariants.{Pending, Active, Over}
use Rattle.mon_downtime.specs.declared.event.Event.{Event}
use Rattle.mon_downtime.specs.Clock.{NothingIsLeft}
use Rattle.mon_downtime.specs.Times.{StartsAreInTime}
use Rattle.mon_downtime.specs.Due.{IsDue, DueIsFirst}
use Rattle.mon_downtime.specs.Events.{due, events, events_of, events_at, fate_by, after_event}
use Rattle.mon_downtime.specs.Problem.{all_started, all_waiting, started, started_by, waits_for}
use Rattle.mon_downtime.specs.Records.{record_of, depth_of, is_active, changed}
use Rattle.mon_inventory.specs.declared.records.ObjectSpec.{ObjectSpec}
use Rattle.mon_inventory.specs.Configuration.{Configuration, passive_hosts_soft}
use Rattle.mon_checks.specs.declared.status.Status.{Status}
use Rattle.mon_checks.specs.States.{change_by}
use Rattle.mon_engine.specs.declared.object.Object.{Object}
use Rattle.mon_engine.specs.declared.outcome.Outcome.{Outcome}
use Rattle.mon_engine.specs.declared.outcome.Outcome.TheVariants.{Applied}
use Rattle.mon_engine.specs.Objects.{host_is_up, object_after}
use Rattle.mon_engine.specs.World.{World}
use Rattle.mon_engine.specs.Results.{is_hard_problem, with_result, started_all, with_started, after_taken}
use Rattle.mon_engine.specs.Effects as acts
use Rattle.mon_engine.specs.Effects.{act}
use Rattle.mon_engine.specs.Step.{closed_at, counted, acted, meaning}
use Rattle.mon_engine.specs.NoticeLaws.{IsInNoDowntime, IsProblemToTell, IsUndisturbed, TellsTheProblem, AProblemIsToldAfterAnyJournal}
use Rattle.mon_engine.specs.Clock.{fired, advanced}
use Rattle.mon_engine.specs.Laws.{moment_of}
use Rattle.mon_engine.specs.DowntimeLaws.{TimeIsOver}
use Rattle.mon_engine.proofs.ActLemmas.{started_leaves, noticed_leaves, check_result_cases}
use Rattle.mon_engine.proofs.ClockLemmas.{drained_keeps, nothing_is_left}
use Rattle.mon_engine.proofs.CountLemmas.{count_none}
use Rattle.mon_engine.proofs.DowntimeLemmas.{OnlyFates, changed_only, started_only, fates_keep, waits_as}
use Rattle.mon_engine.proofs.IdLemmas.{AreIds, mapped_ids, mapped_record, each_found}
use Rattle.mon_engine.proofs.EntryLemmas.{found, found_clock, kept_objects, applied_from}
use Rattle.mon_engine.proofs.FirstLemmas.{noticed_status, a_problem_is_told}
use Rattle.mon_engine.proofs.ListLemmas.{changed_here}
use Rattle.mon_engine.proofs.MoveLemmas.{IsEntered}
use Rattle.mon_engine.proofs.TimeLemmas.{meaning_on_time}
use Rattle.mon_engine.proofs.StageLemmas.{IsStage, Goes, advanced_goes}

-- ---- lists

flat_parts : {X Y : Type 0} (P : Y → Type 0) (f : X → List Y) (xs : List X) → All P (flat_map f xs) → All (λ x. All P (f x)) xs
flat_parts P f [] h = All-nil (λ x. All P (f x))
flat_parts {X = X} {Y = Y} P f (x ∷ xs) h = let parts = apart (f x) (flat_map f xs) h in All-cons (λ y. All P (f y)) x xs parts.0 (flat_parts P f xs parts.1)
  where
    apart : (ys zs : List Y) → All P (ys ++ zs) → All P ys × All P zs
    apart [] zs k = (All-nil P, k)
    apart (y ∷ ys) zs k = let rest = apart ys zs (All-tail P y (ys ++ zs) k) in (All-cons P y ys (All-head P y (ys ++ zs) k) rest.0, rest.1)

-- what is found and passes is counted
found_counts : (p : Downtime → Bool) (ds : List Downtime) (id : ℕ) (x : Downtime) → record_of ds id ≡ Some x → p x ≡ true → 0 < count_by p ds
found_counts p [] id x h passes = absurd (cc)
found_counts p (d ∷ ds) id x h passes = by (eqb d.id id) h (λ k. found_counts p ds id x k passes)
  where
    sum : count_by p (d ∷ ds) ≡ cond (p d) 1 0 + count_by p ds
    sum = sum_by-cons (λ (y : Downtime). cond (p y) 1 0) d ds

    by : (b : Bool) → cond b (Some d) (record_of ds id) ≡ Some x → (record_of ds id ≡ Some x → 0 < count_by p ds) → 0 < count_by p (d ∷ ds)
    by true k rest = let same : d ≡ x = cc in let one : cond (p d) 1 0 ≡ 1 = ap (λ (b : Bool). cond {A = ℕ} b 1 0) (ap p same ∙ passes) in omega (arith, sum, one)
    by false k rest = let more = rest k in omega (arith, sum, more)

none_kept : (p : Downtime → Bool) (ds : List Downtime) → All (λ d. p d ≡ false) ds → filter p ds ≡ []
none_kept p [] h = refl
none_kept p (d ∷ ds) h = ap (λ (b : Bool). cond b (d ∷ filter p ds) (filter p ds)) (All-head (λ x. p x ≡ false) d ds h) ∙ none_kept p ds (All-tail (λ x. p x ≡ false) d ds h)

-- ---- downtimes that last

-- numbered by their ids, and each flexible one lasts
pub record AreLasting (ds : List Downtime) : Type 0 where
  pub ids : AreIds 0 ds
  pub each : All (λ d. d.plan.times.fixed ≡ false → 0 < d.plan.times.duration) ds

refated : (f : Downtime → Downtime) → OnlyFates f → (ds : List Downtime) → AreLasting ds → AreLasting (map f ds)
refated f only ds h = record { ids = mapped_ids f only 0 ds h.ids; each = fates_keep (λ (d : Downtime). d.plan.times.fixed ≡ false → 0 < d.plan.times.duration) (λ d fate k. k) f only ds h.each }

fired_lasting : (inv : Configuration) (w : World) (e : Event) → AreLasting w.downtimes → AreLasting (fired inv w e).downtimes
unfolding fired after_event
fired_lasting inv w e h = refated (changed e.id (fate_by e.moment e.kind)) (changed_only e.id (fate_by e.moment e.kind)) w.downtimes h

pub advanced_lasting : (inv : Configuration) (w : World) (t : ℕ) → AreLasting w.downtimes → AreLasting (advanced inv w t).downtimes
unfolding advanced
advanced_lasting inv w t h = drained_keeps inv (λ (v : World). AreLasting v.downtimes) t (λ v e k d. fired_lasting inv v e k) w h

-- ---- one downtime

-- active until after t, it is active at t
stays_active : DueIsFirst → (inv : Configuration) (u : World) (t : ℕ) (d : Downtime) (since until : ℕ) → AreIds 0 u.downtimes → record_of u.downtimes d.id ≡ Some d → d.fate ≡ Active since until → t < until
    → 0 < depth_of (advanced inv u t).downtimes d.object
stays_active first inv u t d since until ids there is late = by_fate g.at.fate refl g.stage
  where
    g : Goes d t ⊥ (advanced inv u t).downtimes
    g = advanced_goes first inv d t ⊥ u (record { ids = ids; at = d; there = there; same = refl; stage = subst (IsStage ⊥ d t) (sym is) (inl is) })

    by_fate : (f : Fate) → g.at.fate ≡ f → IsStage ⊥ d t f → 0 < depth_of (advanced inv u t).downtimes d.object
    by_fate Pending e s = let never : Active since until ≡ Pending = sym is ∙ s in absurd (cc)
    by_fate (Active from to) e s = found_counts (λ x. eqb x.object d.object && is_active x.fate) (advanced inv u t).downtimes d.id g.at g.there
        (and_from (eqb g.at.object d.object) (is_active g.at.fate) (eq-eqb g.at.object d.object (ap (λ (y : Downtime). y.object) g.same)) (ap is_active e))
    by_fate Over e s = elim s [
      | inl over ↦ (let early : until ≤ t = subst (TimeIsOver d t) is over in absurd (omega (arith, early, late)))
      | inr never ↦ absurd never
    ]

-- where nothing is due by t, what is active ends after t
ends_later : DueIsFirst → (ds : List Downtime) (t : ℕ) → due ds t ≡ None → All (λ d. (since until : ℕ) → d.fate ≡ Active since until → t < until) ds
unfolding events events_of
ends_later first ds t none =
    let all : All (λ f. t < f.moment) (events ds) = All-from_recursion (λ (f : Event). t < f.moment) (events ds) (subst (IsDue (events ds) t) none (first ds t)) in
    All-weaker (λ d. All (λ f. t < f.moment) (events_of ds d)) (λ d. (since until : ℕ) → d.fate ≡ Active since until → t < until) (λ d k. of_active d k) ds (flat_parts (λ (f : Event). t < f.moment) (events_of ds) ds all)
  where
    of_active : (d : Downtime) → All (λ f. t < f.moment) (events_of ds d) → (since until : ℕ) → d.fate ≡ Active since until → t < until
    of_active d k since until is = All-head (λ f. t < f.moment) _ [] (subst (λ (f : Fate). All (λ (x : Event). t < x.moment) (events_at ds d f)) is k)

-- ---- a problem

-- a problem has started all downtimes of v that waited; u has these, and in v nothing was due by t
module _ (first : DueIsFirst) (inv : Configuration) (v u : World) (t object : ℕ) (lasting : AreLasting v.downtimes) (none : due v.downtimes t ≡ None) (begun : u.downtimes ≡ all_started v.downtimes object t) where
  begun_ids : AreIds 0 u.downtimes
  unfolding all_started
  begun_ids = subst (AreIds 0) (sym begun) (mapped_ids (started object t) (started_only object t) 0 v.downtimes lasting.ids)

  begun_record : (r x : Downtime) → record_of v.downtimes r.id ≡ Some r → started object t r ≡ x → record_of u.downtimes r.id ≡ Some x
  unfolding all_started
  begun_record r x there is = ap (λ (ds : List Downtime). record_of ds r.id) begun ∙ mapped_record (started object t) (started_only object t) v.downtimes r.id r there ∙ ap (λ (y : Downtime). Some y) is

  -- one that is active in v is active afterwards
  active_later : (r : Downtime) → record_of v.downtimes r.id ≡ Some r → ((since until : ℕ) → r.fate ≡ Active since until → t < until) → is_active r.fate ≡ true → 0 < depth_of (advanced inv u t).downtimes r.object
  active_later r there later active = by r.fate refl active
    where
      by : (f : Fate) → r.fate ≡ f → is_active f ≡ true → 0 < depth_of (advanced inv u t).downtimes r.object
      by Pending e a = absurd (cc)
      by (Active since until) e a =
          let still : waits_for object t r ≡ false = false_from_ne_true (waits_for object t r) (λ w. (let never : Active since until ≡ Pending = sym e ∙ (waits_as object t r w).1 in absurd (cc))) in
          stays_active first inv u t r since until begun_ids (begun_record r r there (ap (λ (b : Bool). cond b (record r { fate = started_by t r }) r) still)) e (later since until e)
      by Over e a = absurd (cc)

  -- and so is one that waits in v
  waiting_later : (r : Downtime) → record_of v.downtimes r.id ≡ Some r → (r.plan.times.fixed ≡ false → 0 < r.plan.times.duration) → waits_for object t r ≡ true → 0 < depth_of (advanced inv u t).downtimes object
  waiting_later r there lasts waits =
      let waited = waits_as object t r waits in
      let x : Downtime = record r { fate = started_by t r } in
      let long = lasts waited.2 in
      let later : 0 < depth_of (advanced inv u t).downtimes r.object =
      stays_active first inv u t x t (t + r.plan.times.duration) begun_ids (begun_record r x there (ap (λ (b : Bool). cond b (record r { fate = started_by t r }) r) waits)) refl (omega (arith, long)) in
      subst (λ (n : ℕ). 0 < depth_of (advanced inv u t).downtimes n) waited.0 later

  pub none_was_active : (x : ℕ) → depth_of (advanced inv u t).downtimes x ≡ 0 → depth_of v.downtimes x ≡ 0
  none_was_active x quiet = count_none (λ d. eqb d.object x && is_active d.fate) v.downtimes
      (λ k d lt. one (get_or v.downtimes k d) (each_found 0 v.downtimes lasting.ids k d lt).1 (ends_later first v.downtimes t none k d lt))
    where
      one : (r : Downtime) → record_of v.downtimes r.id ≡ Some r → ((since until : ℕ) → r.fate ≡ Active since until → t < until) → (eqb r.object x && is_active r.fate) ≡ false
      one r there later = false_from_ne_true (eqb r.object x && is_active r.fate) (λ h. (let parts = and_parts (eqb r.object x) (is_active r.fate) h in
          let some : 0 < depth_of (advanced inv u t).downtimes x = subst (λ (n : ℕ). 0 < depth_of (advanced inv u t).downtimes n) (eqb-true r.object x parts.0) (active_later r there later parts.1) in
          absurd (omega (arith, some, quiet))))

  pub none_waited : depth_of (advanced inv u t).downtimes object ≡ 0 → all_waiting v.downtimes object t ≡ []
  unfolding all_waiting
  none_waited quiet = none_kept (waits_for object t) v.downtimes (λ k d lt. one (get_or v.downtimes k d) (each_found 0 v.downtimes lasting.ids k d lt).1 (lasting.each k d lt))
    where
      one : (r : Downtime) → record_of v.downtimes r.id ≡ Some r → (r.plan.times.fixed ≡ false → 0 < r.plan.times.duration) → waits_for object t r ≡ false
      one r there lasts = false_from_ne_true (waits_for object t r) (λ waits. (let some = waiting_later r there lasts waits in absurd (omega (arith, some, quiet))))

-- ---- a result

hard_started : (inv : Configuration) (w : World) (object : ℕ) → is_hard_problem (slice_get w.objects object) ≡ true → (with_started inv w object).downtimes ≡ all_started w.downtimes object w.clock
unfolding started_all
hard_started inv w object hard = ap (λ (b : Bool). (if b then started_all inv w object else w).downtimes) hard

taken_free : DueIsFirst → NothingIsLeft → (inv : Configuration) (w : World) (e : Entry) (object code : ℕ) (output : List ℕ) (spec : ObjectSpec) (o after : Object) → slice_get (found inv w e).objects object ≡ Some o → AreLasting w.downtimes
    → IsProblemToTell inv w (advanced inv (counted (after_taken inv (found inv w e) object code output spec o)) (moment_of w e)) (moment_of w e) object spec o after
    → IsInNoDowntime inv (advanced inv (counted (after_taken inv (found inv w e) object code output spec o)) (moment_of w e)) object → IsUndisturbed inv w (moment_of w e) object
taken_free first done inv w e object code output spec o after at lasting h quiet = record {
  no_downtime = record { depth = none_was_active first inv v (counted b) t object lasting_v none begun object quiet.depth; host_depth = λ s k l. none_was_active first inv v (counted b) t object lasting_v none begun s.host_object (quiet.host_depth s k l) };
  none_waits = none_waited first inv v (counted b) t object lasting_v none begun quiet.depth;
}
  where
    t : ℕ
    t = moment_of w e

    v : World
    v = found inv w e

    with_it : World
    with_it = with_result inv v object spec o code output

    u : World
    u = with_started inv with_it object

    b : World
    b = after_taken inv v object code output spec o

    o1 : Object
    o1 = object_after v.clock code output (host_is_up v.objects spec) (passive_hosts_soft inv) spec.max o

    lasting_v : AreLasting v.downtimes
    lasting_v = advanced_lasting inv w t lasting

    none : due v.downtimes t ≡ None
    none = nothing_is_left done inv w t

    here : slice_get with_it.objects object ≡ Some o1
    here = changed_here v.objects object (object_after v.clock code output (host_is_up v.objects spec) (passive_hosts_soft inv) spec.max) o at

    left : slice_get b.objects object ≡ Some after
    left = ap (λ (os : List Object). slice_get os object) (sym (kept_objects inv (counted b) t)) ∙ h.left

    same : after.status ≡ o1.status
    same = noticed_status inv u object (change_by o.status code) o1 after (ap (λ (x : World). slice_get x.objects object) (started_leaves inv with_it object) ∙ here) left

    hard : is_hard_problem (slice_get with_it.objects object) ≡ true
    hard = ap is_hard_problem here ∙ ap (λ (s : Status). not (eqb s.code 0) && s.hard) (sym same)
        ∙ and_from (not (eqb after.status.code 0)) after.status.hard (not_from_false (eqb after.status.code 0) (ne_eqb after.status.code 0 h.problem)) h.hard

    begun : b.downtimes ≡ all_started v.downtimes object t
    begun = ap (λ (x : World). x.downtimes) (noticed_leaves inv u object (change_by o.status code)) ∙ hard_started inv with_it object hard ∙ ap (all_started v.downtimes object) (found_clock inv w e)

told_afterwards : DueIsFirst → NothingIsLeft → (inv : Configuration) (w : World) (e : Entry) (object : ℕ) → AreLasting w.downtimes → TellsTheProblem inv w e object (IsInNoDowntime inv (acted inv w e).0 object)
unfolding act
told_afterwards first done inv w e object lasting code output spec before after applied asked h quiet =
    a_problem_is_told inv w e object code output spec before after applied asked h (subst P (sym from.2) (check_result_cases (λ (b : World). P (closed_at inv (moment_of w e) (b, Applied))) inv (found inv w e) from.0 object code output from.1 by_object) h quiet)
  where
    from : (b : World) × (act inv (found inv w e) (acts.CheckResult object code output) ≡ Ok b) × (acted inv w e ≡ closed_at inv (moment_of w e) (b, Applied))
    from = applied_from inv w e (acts.CheckResult object code output) applied asked

    P : World × Outcome → Type 0
    P p = IsProblemToTell inv w p.0 (moment_of w e) object spec before after → IsInNoDowntime inv p.0 object → IsUndisturbed inv w (moment_of w e) object

    by_object : (s : ObjectSpec) (o : Object) → slice_get inv.objects object ≡ Some s → slice_get (found inv w e).objects object ≡ Some o → P (closed_at inv (moment_of w e) (after_taken inv (found inv w e) object code output s o, Applied))
    by_object s o known at k =
        let of : spec ≡ s = same_Some spec s (sym k.known ∙ known) in
        let was : before ≡ o = same_Some before o (sym k.found ∙ ap (λ (os : List Object). slice_get os object) (sym (kept_objects inv w (moment_of w e))) ∙ at) in
        let end : World = advanced inv (counted (after_taken inv (found inv w e) object code output s o)) (moment_of w e) in
        taken_free first done inv w e object code output s o after at lasting
        (subst (λ (p : Object). IsProblemToTell inv w end (moment_of w e) object s p after) was (subst (λ (x : ObjectSpec). IsProblemToTell inv w end (moment_of w e) object x before after) of k))

pub a_problem_is_told_after_any_journal : DueIsFirst → StartsAreInTime → NothingIsLeft → AProblemIsToldAfterAnyJournal
a_problem_is_told_after_any_journal first in_time done inv journal e object =
    let entered = (meaning_on_time in_time done inv journal).entered in
    told_afterwards first done inv (meaning inv journal) e object
    (record { ids = entered.ids; each = All-weaker (IsEntered (meaning inv journal).clock) (λ d. d.plan.times.fixed ≡ false → 0 < d.plan.times.duration) (λ d k. k.1) (meaning inv journal).downtimes entered.each })
