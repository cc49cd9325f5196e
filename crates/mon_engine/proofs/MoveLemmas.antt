-- What acts and time do to the downtimes: they stay numbered by their ids, and entered by the clock.
use Rattle.std.proofs.Common.{◌≡◌, ℕ, zero, suc, ◌+◌, ◌<◌, ◌≤◌, Bool, true, false, eqb, leb, not, ◌&&◌, Option, Some, None, if◌then◌else◌, List, [], ◌∷◌, ◌++◌, length, get_or, slice_get, map, max, All, Ok, ◌⊎◌, inl, inr, refl, ap, sym, ◌∙◌, subst, arith}
use Rattle.std.proofs.lemmas.List.Elements.{All-nil, All-cons, All-head, All-tail, All-append, All-weaker}
use Rattle.std.proofs.lemmas.List.{get_or_default}
use Rattle.mon_checks.specs.States.{change_by}
use Rattle.mon_checks.specs.declared.transition.Change.{Change}
use Rattle.mon_downtime.specs.declared.downtime.Downtime.{Downtime}
use Rattle.mon_downtime.specs.declared.downtime.Fate.TheVariants.{Pending}
use Rattle.mon_downtime.specs.declared.event.Event.{Event}
use Rattle.mon_downtime.specs.declared.plan.Plan.{Plan}
use Rattle.mon_downtime.specs.Records.{record_of, changed}
use Rattle.mon_downtime.specs.Events.{fate_by, after_event}
use Rattle.mon_downtime.specs.Schedule.{Fault, BadWindow, PastWindow, NoDuration, fault_of, new_records}
use Rattle.mon_downtime.specs.Problem.{all_started, started}
use Rattle.mon_downtime.specs.Cancel.{cancelled, cancelled_record}
use Rattle.mon_inventory.specs.declared.records.ObjectSpec.{ObjectSpec}
use Rattle.mon_inventory.specs.Configuration.{Configuration}
use Rattle.mon_inventory.specs.Lookups.{services_of}
use Rattle.mon_engine.specs.declared.object.Kind.{Kind}
use Rattle.mon_engine.specs.declared.object.Object.{Object}
use Rattle.mon_engine.specs.Objects.{after_told, reset}
use Rattle.mon_engine.specs.World.{World}
use Rattle.mon_engine.specs.Notices.{noticed}
use Rattle.mon_engine.specs.Results.{is_hard_problem, with_result, started_all, with_started, after_taken, after_check_result}
use Rattle.mon_engine.specs.Downtimes.{has_downtime_by, after_cancel, told_cancelled}
use Rattle.mon_engine.specs.Effects as acts
use Rattle.mon_engine.specs.Effects.{Act, act}
use Rattle.mon_engine.specs.Clock.{fired, advanced}
use Rattle.mon_engine.specs.TouchLaws.{Schedules}
use Rattle.mon_engine.proofs.ActLemmas.{schedule_cases, del_downtime_cases, started_leaves, noticed_leaves, noticed_cases, check_result_cases, act_leaves}
use Rattle.mon_engine.proofs.ClockLemmas.{drained_keeps}
use Rattle.mon_engine.proofs.DowntimeLemmas.{OnlyFates, changed_only, started_only, cancelled_only, fates_keep}
use Rattle.mon_engine.proofs.IdLemmas.{AreIds, mapped_ids, more_ids}
use Rattle.mon_engine.proofs.ListLemmas.{changed_reads}

-- entered by c, and a flexible one has a duration
abbrev pub IsEntered : (c : ℕ) → Downtime → Type 0
IsEntered c d = (d.entered ≤ c) × (d.plan.times.fixed ≡ false → 0 < d.plan.times.duration)

-- ---- an act

-- they stay; or new ones of the objects asked for stand behind them, pending and entered at the clock; or a result that leaves a hard problem starts those of its object that wait for one; or one is cancelled by its id
abbrev pub Moves : Configuration → (v b : World) → Act → Type 0
Moves inv v b a =
    (b.downtimes ≡ v.downtimes)
    ⊎ (((new : List Downtime) × (b.downtimes ≡ v.downtimes ++ new) × AreIds (length v.downtimes) new × All (IsEntered v.clock) new × All (λ (d : Downtime). d.fate ≡ Pending) new × All (λ (d : Downtime). Schedules inv d.object a) new)
    ⊎ (((object : ℕ) × (code : ℕ) × (output : List ℕ) × (a ≡ acts.CheckResult object code output) × (b.downtimes ≡ all_started v.downtimes object v.clock) × (is_hard_problem (slice_get b.objects object) ≡ true))
    ⊎ ((kind : Kind) × (id : ℕ) × (a ≡ acts.DelDowntime kind id) × (has_downtime_by inv kind (record_of v.downtimes id) ≡ true) × (b.downtimes ≡ cancelled v.downtimes id))))

-- a hard problem starts them
started_by_problem : (inv : Configuration) (w : World) (x : ℕ) → ((with_started inv w x).downtimes ≡ w.downtimes) ⊎ (((with_started inv w x).downtimes ≡ all_started w.downtimes x w.clock) × (is_hard_problem (slice_get w.objects x) ≡ true))
unfolding started_all
started_by_problem inv w x = by_problem (is_hard_problem (slice_get w.objects x)) refl
  where
    by_problem : (b : Bool) → is_hard_problem (slice_get w.objects x) ≡ b
        → ((if b then started_all inv w x else w).downtimes ≡ w.downtimes) ⊎ (((if b then started_all inv w x else w).downtimes ≡ all_started w.downtimes x w.clock) × (is_hard_problem (slice_get w.objects x) ≡ true))
    by_problem true h = inr (refl, h)
    by_problem false h = inl refl

-- notices leave whether there is one
noticed_problem : (inv : Configuration) (w : World) (x : ℕ) (change : Change) → is_hard_problem (slice_get (noticed inv w x change).objects x) ≡ is_hard_problem (slice_get w.objects x)
noticed_problem inv w x change = noticed_cases (λ (y : World). is_hard_problem (slice_get y.objects x) ≡ is_hard_problem (slice_get w.objects x)) inv w x change refl
    (λ spec o known at. changed_reads is_hard_problem w.objects x x reset (λ p. refl))
    (λ spec o known at n e. changed_reads is_hard_problem w.objects x x (after_told w.clock) (λ p. refl))

checked_moves : (inv : Configuration) (v w : World) (x code : ℕ) (output : List ℕ) → after_check_result inv v x code output ≡ Ok w → Moves inv v w (acts.CheckResult x code output)
checked_moves inv v w x code output e = check_result_cases (λ (y : World). Moves inv v y (acts.CheckResult x code output)) inv v w x code output e (λ spec o known at. taken spec o)
  where
    taken : (spec : ObjectSpec) (o : Object) → Moves inv v (after_taken inv v x code output spec o) (acts.CheckResult x code output)
    taken spec o =
        let u : World = with_result inv v x spec o code output in
        let on : World = with_started inv u x in
        let downtimes = ap (λ (y : World). y.downtimes) (noticed_leaves inv on x (change_by o.status code)) in
        elim (started_by_problem inv u x) [
          | inl same ↦ inl (downtimes ∙ same)
          | inr began ↦ inr (inr (inl (x, code, output, refl, downtimes ∙ began.0, noticed_problem inv on x (change_by o.status code) ∙ ap (λ (y : World). is_hard_problem (slice_get y.objects x)) (started_leaves inv u x) ∙ began.1)))
        ]

ids_new : (clock : ℕ) (objects : List ℕ) (plan : Plan) (n : ℕ) → AreIds n (new_records n clock objects plan)
unfolding new_records
ids_new clock [] plan n = tt
ids_new clock (object ∷ objects) plan n = (refl, ids_new clock objects plan (n + 1))

entered_new : (clock : ℕ) (objects : List ℕ) (plan : Plan) (n : ℕ) → (plan.times.fixed ≡ false → 0 < plan.times.duration) → All (IsEntered clock) (new_records n clock objects plan)
unfolding new_records
entered_new clock [] plan n lasts = All-nil (IsEntered clock)
entered_new clock (object ∷ objects) plan n lasts = All-cons (IsEntered clock) _ (new_records (n + 1) clock objects plan) (omega arith, lasts) (entered_new clock objects plan (n + 1) lasts)

pending_new : (clock : ℕ) (objects : List ℕ) (plan : Plan) (n : ℕ) → All (λ (d : Downtime). d.fate ≡ Pending) (new_records n clock objects plan)
unfolding new_records
pending_new clock [] plan n = All-nil (λ (d : Downtime). d.fate ≡ Pending)
pending_new clock (object ∷ objects) plan n = All-cons (λ (d : Downtime). d.fate ≡ Pending) _ (new_records (n + 1) clock objects plan) refl (pending_new clock objects plan (n + 1))

some_time : (duration : ℕ) → eqb duration 0 ≡ false → 0 < duration
some_time zero h = absurd (cc)
some_time (suc n) h = omega arith

-- a flexible plan without a fault has a duration
sound_lasts : (ds : List Downtime) (clock : ℕ) (plan : Plan) → fault_of ds clock plan ≡ None → plan.times.fixed ≡ false → 0 < plan.times.duration
sound_lasts ds clock plan sound flexible = by_tests (leb plan.times.end_time plan.times.start_time) (leb plan.times.end_time clock) plan.times.fixed (eqb plan.times.duration 0) _ sound flexible refl
  where
    by_tests : (bad past fixed short : Bool) (trigger : Option Fault) → (if bad then Some BadWindow else (if past then Some PastWindow else (if not fixed && short then Some NoDuration else trigger))) ≡ None
        → fixed ≡ false → eqb plan.times.duration 0 ≡ short → 0 < plan.times.duration
    by_tests true past fixed short trigger h f e = absurd (cc)
    by_tests false true fixed short trigger h f e = absurd (cc)
    by_tests false false true short trigger h f e = absurd (cc)
    by_tests false false false true trigger h f e = absurd (cc)
    by_tests false false false false trigger h f e = some_time plan.times.duration e

-- each is of one of the objects
objects_new : (Q : ℕ → Type 0) (clock : ℕ) (objects : List ℕ) (plan : Plan) (n : ℕ) → All Q objects → All (λ (d : Downtime). Q d.object) (new_records n clock objects plan)
unfolding new_records
objects_new Q clock [] plan n a = All-nil (λ (d : Downtime). Q d.object)
objects_new Q clock (object ∷ objects) plan n a = All-cons (λ (d : Downtime). Q d.object) _ (new_records (n + 1) clock objects plan) (All-head Q object objects a) (objects_new Q clock objects plan (n + 1) (All-tail Q object objects a))

scheduled_moves : (inv : Configuration) (v : World) (a : Act) (objects : List ℕ) (plan : Plan) → All (λ x. Schedules inv x a) objects → fault_of v.downtimes v.clock plan ≡ None → Moves inv v (record v { downtimes = v.downtimes ++ new_records (length v.downtimes) v.clock objects plan }) a
scheduled_moves inv v a objects plan asked sound = inr (inl (new_records (length v.downtimes) v.clock objects plan, refl, ids_new v.clock objects plan (length v.downtimes), entered_new v.clock objects plan (length v.downtimes) (sound_lasts v.downtimes v.clock plan sound), pending_new v.clock objects plan (length v.downtimes), objects_new (λ x. Schedules inv x a) v.clock objects plan (length v.downtimes) asked))

pub act_moves : (inv : Configuration) (v w : World) (a : Act) → act inv v a ≡ Ok w → Moves inv v w a
unfolding act after_cancel told_cancelled new_records
act_moves inv v w (acts.CheckResult object code output) e = checked_moves inv v w object code output e
act_moves inv v w (acts.Schedule object plan) e = schedule_cases (λ (y : World). Moves inv v y (acts.Schedule object plan)) v w _ (fault_of v.downtimes v.clock plan) e (λ sound. scheduled_moves inv v (acts.Schedule object plan) (object ∷ []) plan (All-cons (λ x. object ≡ x) object [] refl (All-nil (λ x. object ≡ x))) sound)
act_moves inv v w (acts.ScheduleServices host plan) e =
    schedule_cases (λ (y : World). Moves inv v y (acts.ScheduleServices host plan)) v w _ (fault_of v.downtimes v.clock plan) e (λ sound. scheduled_moves inv v (acts.ScheduleServices host plan) (services_of inv.objects host) plan (λ k d h. (k, h, get_or_default (services_of inv.objects host) k (get_or (services_of inv.objects host) k d) d h)) sound)
act_moves inv v w (acts.DelDowntime kind id) e = del_downtime_cases (λ (y : World). Moves inv v y (acts.DelDowntime kind id)) inv v w kind id e (λ there. inr (inr (inr (kind, id, refl, there, refl))))
act_moves inv v w a e = inl (ap (λ (x : World). x.downtimes) (act_leaves inv v w a e))

-- ---- what stays

-- numbered by their ids, and each entered by c
pub record AreEntered (c : ℕ) (ds : List Downtime) : Type 0 where
  pub ids : AreIds 0 ds
  pub each : All (IsEntered c) ds

refated : (f : Downtime → Downtime) → OnlyFates f → (c : ℕ) (ds : List Downtime) → AreEntered c ds → AreEntered c (map f ds)
refated f only c ds h = record { ids = mapped_ids f only 0 ds h.ids; each = fates_keep (IsEntered c) (λ d fate k. k) f only ds h.each }

pub moves_entered : (inv : Configuration) (v b : World) (a : Act) → AreEntered v.clock v.downtimes → Moves inv v b a → AreEntered v.clock b.downtimes
unfolding all_started cancelled
moves_entered inv v b a h (inl same) = subst (AreEntered v.clock) (sym same) h
moves_entered inv v b a h (inr (inl more)) =
    let first : length v.downtimes ≡ 0 + length v.downtimes = omega arith in
    subst (AreEntered v.clock) (sym more.1) (record {
      ids = more_ids 0 v.downtimes more.0 h.ids (subst (λ (n : ℕ). AreIds n more.0) first more.2);
      each = All-append (IsEntered v.clock) v.downtimes more.0 h.each more.3;
    })
moves_entered inv v b a h (inr (inr (inl begun))) = subst (AreEntered v.clock) (sym begun.4) (refated (started begun.0 v.clock) (started_only begun.0 v.clock) v.clock v.downtimes h)
moves_entered inv v b a h (inr (inr (inr gone))) = subst (AreEntered v.clock) (sym gone.4) (refated (cancelled_record v.downtimes gone.1) (cancelled_only v.downtimes gone.1) v.clock v.downtimes h)

fired_entered : (inv : Configuration) (c : ℕ) (w : World) (e : Event) → AreEntered c w.downtimes → AreEntered c (fired inv w e).downtimes
unfolding fired after_event
fired_entered inv c w e h = refated (changed e.id (fate_by e.moment e.kind)) (changed_only e.id (fate_by e.moment e.kind)) c w.downtimes h

-- time goes on to t or later
pub advanced_entered : (inv : Configuration) (c t : ℕ) (w : World) → c ≤ max w.clock t → AreEntered c w.downtimes → AreEntered (advanced inv w t).clock (advanced inv w t).downtimes
unfolding advanced
advanced_entered inv c t w l h =
    let run = drained_keeps inv (λ (v : World). AreEntered c v.downtimes) t (λ v e k d. fired_entered inv c v e k) w h in
    record { ids = run.ids; each = All-weaker (IsEntered c) (IsEntered (max w.clock t)) (λ d k. (let early = k.0 in omega (arith, early, l), k.1)) _ run.each }
