-- One downtime from stage to stage: what time, problems and cancellations make of it.
use Rattle.std.proofs.Common.{◌≡◌, ◌≢◌, ℕ, ◌+◌, ◌<◌, ◌≤◌, Bool, true, false, eqb, cond, List, ◌++◌, length, map, Some, ◌⊎◌, inl, inr, if◌then◌else◌, refl, ap, sym, ◌∙◌, subst, arith}
use Rattle.std.proofs.lemmas.Bool.{eqb-true}
use Rattle.mon_downtime.specs.declared.downtime.Downtime.{Downtime}
use Rattle.mon_downtime.specs.declared.downtime.Fate.{Fate}
use Rattle.mon_downtime.specs.declared.downtime.Fate.TheVariants.{Pending, Active, Over}
use Rattle.mon_downtime.specs.declared.event.Event.{Event}
use Rattle.mon_downtime.specs.declared.event.EventKind.{EventKind}
use Rattle.mon_downtime.specs.declared.event.EventKind.TheVariants.{Ends, Expires, Starts}
use Rattle.mon_downtime.specs.Records.{record_of, changed}
use Rattle.mon_downtime.specs.Events.{fate_by, due, after_event}
use Rattle.mon_downtime.specs.Due.{DueIsFirst}
use Rattle.mon_downtime.specs.Problem.{all_started, started, started_by, waits_for}
use Rattle.mon_downtime.specs.Cancel.{depends, cancelled, cancelled_record}
use Rattle.mon_inventory.specs.Configuration.{Configuration}
use Rattle.mon_engine.specs.World.{World}
use Rattle.mon_engine.specs.Clock.{due_in, fired, advanced}
use Rattle.mon_engine.specs.DowntimeLaws.{TimeIsOver}
use Rattle.mon_engine.proofs.ClockLemmas.{drained_keeps}
use Rattle.mon_engine.proofs.DowntimeLemmas.{OnlyFates, changed_only, started_only, cancelled_only, waits_as}
use Rattle.mon_engine.proofs.IdLemmas.{AreIds, mapped_ids, more_ids, mapped_record, more_record}
use Rattle.mon_engine.proofs.DueLemmas.{IsOf, due_known}

-- what has become of d by t: as it was, started (a flexible one by its trigger, or else to end after t), over by its time, or over where C says why
abbrev pub IsStage : (C : Type 0) → Downtime → (t : ℕ) → Fate → Type 0
IsStage C d t Pending = d.fate ≡ Pending
IsStage C d t (Active since until) = (d.fate ≡ Active since until) ⊎ ((d.fate ≡ Pending) × (d.entered ≤ since) × (until ≡ (if d.plan.times.fixed then d.plan.times.end_time else since + d.plan.times.duration)) × (d.plan.times.fixed ≡ false → (d.plan.times.trigger_id ≢ 0) ⊎ (t < until)))
IsStage C d t Over = TimeIsOver d t d.fate ⊎ C

-- its record is there in its stage, among records numbered by their ids
pub record Goes (d : Downtime) (t : ℕ) (C : Type 0) (ds : List Downtime) : Type 0 where
  pub ids : AreIds 0 ds
  pub at : Downtime
  pub there : record_of ds d.id ≡ Some at
  pub same : at ≡ record d { fate = at.fate }
  pub stage : IsStage C d t at.fate

-- where there is more that may end it
pub stage_on : (C C' : Type 0) (d : Downtime) (t : ℕ) → (C → C') → (f : Fate) → IsStage C d t f → IsStage C' d t f
stage_on C C' d t g Pending h = h
stage_on C C' d t g (Active since until) h = h
stage_on C C' d t g Over h = elim h [
  | inl time ↦ inl time
  | inr why ↦ inr (g why)
]

abbrev pub goes_on : (d : Downtime) (t : ℕ) (C C' : Type 0) (ds : List Downtime) → (C → C') → Goes d t C ds → Goes d t C' ds
goes_on d t C C' ds f g = record { ids = g.ids; at = g.at; there = g.there; same = g.same; stage = stage_on C C' d t f g.at.fate g.stage }

-- where its fate is another, where a test says so
stage_if : (C : Type 0) (d x : Downtime) (t : ℕ) (fate : Fate) (b : Bool) → IsStage C d t x.fate → (b ≡ true → IsStage C d t fate) → IsStage C d t (cond b (record x { fate = fate }) x).fate
stage_if C d x t fate true stage next = next refl
stage_if C d x t fate false stage next = stage

-- where fates change, and its own to that of a stage
fates_go : (d : Downtime) (t : ℕ) (C : Type 0) (ds : List Downtime) (f : Downtime → Downtime) → OnlyFates f → (g : Goes d t C ds) → IsStage C d t (f g.at).fate → Goes d t C (map f ds)
fates_go d t C ds f only g stage = record {
  ids = mapped_ids f only 0 ds g.ids;
  at = f g.at;
  there = mapped_record f only ds d.id g.at g.there;
  same = only g.at ∙ ap (λ (y : Downtime). record y { fate = (f g.at).fate }) g.same;
  stage = stage;
}

-- ---- time

ended : (C : Type 0) (d : Downtime) (t since until : ℕ) → until ≤ t → IsStage C d t (Active since until) → TimeIsOver d t d.fate
ended C d t since until l h = elim h [
  | inl was ↦ subst (TimeIsOver d t) (sym was) l
  | inr began ↦ subst (TimeIsOver d t) (sym began.0) (by_fixed d.plan.times.fixed refl began.1 began.2 began.3)
]
  where
    by_fixed : (b : Bool) → d.plan.times.fixed ≡ b → d.entered ≤ since → until ≡ (if b then d.plan.times.end_time else since + d.plan.times.duration) → (d.plan.times.fixed ≡ false → (d.plan.times.trigger_id ≢ 0) ⊎ (t < until)) → TimeIsOver d t Pending
    by_fixed true e late is by = inl (omega arith)
    by_fixed false e late is by = elim (by e) [
      | inl trigger ↦ inr (e, trigger, omega arith)
      | inr after ↦ absurd (omega arith)
    ]

-- an event of the record brings it to its next stage
next_stage : (C : Type 0) (d x : Downtime) (t moment : ℕ) (kind : EventKind) (f : Fate) → x ≡ record d { fate = x.fate } → x.fate ≡ f → moment ≤ t → IsOf x kind moment f → IsStage C d t f → IsStage C d t (fate_by moment kind x)
next_stage C d x t moment Expires Pending same is l of h = inl (subst (TimeIsOver d t) (sym h) (inl (let late : x.plan.times.end_time ≡ d.plan.times.end_time = ap (λ (y : Downtime). y.plan.times.end_time) same in omega (arith, late, of, l))))
next_stage C d x t moment Starts Pending same is l of h = inr (h, (let entered : x.entered ≡ d.entered = ap (λ (y : Downtime). y.entered) same in let late = of.0 in omega (arith, entered, late)), ap (λ (y : Downtime). if y.plan.times.fixed then y.plan.times.end_time else moment + y.plan.times.duration) same, λ flexible. inl (subst (λ (y : Downtime). y.plan.times.fixed ≡ false → y.plan.times.trigger_id ≢ 0) same of.1 flexible))
next_stage C d x t moment Ends Pending same is l of h = absurd of
next_stage C d x t moment Ends (Active since until) same is l of h = inl (ended C d t since until (omega (arith, of, l)) h)
next_stage C d x t moment Expires (Active since until) same is l of h = absurd of
next_stage C d x t moment Starts (Active since until) same is l of h = absurd of
next_stage C d x t moment Ends Over same is l of h = absurd of
next_stage C d x t moment Expires Over same is l of h = absurd of
next_stage C d x t moment Starts Over same is l of h = absurd of

event_goes : DueIsFirst → (d : Downtime) (t k : ℕ) (C : Type 0) (ds : List Downtime) (e : Event) → k ≤ t → due ds k ≡ Some e → Goes d t C ds → Goes d t C (after_event ds e)
unfolding after_event
event_goes first d t k C ds e l h g =
    let known = due_known first ds k e g.ids h in
    let early = known.1 in
    let x = g.at in
    let fate = fate_by e.moment e.kind in
    let next : eqb x.id e.id ≡ true → IsStage C d t (fate_by e.moment e.kind x) = (λ hit.
    (let id : x.id ≡ d.id = ap (λ (y : Downtime). y.id) g.same in
    let is : record_of ds e.id ≡ Some x = ap (record_of ds) (sym (eqb-true x.id e.id hit) ∙ id) ∙ g.there in
    let one : known.0.0 ≡ x = (let first = known.0.1 in cc) in
    next_stage C d x t e.moment e.kind x.fate g.same refl (omega (arith, early, l)) (subst (λ (y : Downtime). IsOf y e.kind e.moment y.fate) one known.0.2) g.stage)) in
    fates_go d t C ds (changed e.id fate) (changed_only e.id fate) g (stage_if C d x t (fate_by e.moment e.kind x) (eqb x.id e.id) g.stage next)

fired_goes : DueIsFirst → (inv : Configuration) (d : Downtime) (t k : ℕ) (C : Type 0) (w : World) (e : Event) → k ≤ t → due_in w k ≡ Some e → Goes d t C w.downtimes → Goes d t C (fired inv w e).downtimes
unfolding fired
fired_goes first inv d t k C w e l h g = event_goes first d t k C w.downtimes e l h g

pub advanced_goes : DueIsFirst → (inv : Configuration) (d : Downtime) (t : ℕ) (C : Type 0) (w : World) → Goes d t C w.downtimes → Goes d t C (advanced inv w t).downtimes
unfolding advanced
advanced_goes first inv d t C w g = drained_keeps inv (λ (v : World). Goes d t C v.downtimes) t (λ v e k h. fired_goes first inv d t t C v e (omega arith) h k) w g

-- ---- more downtimes, problems and cancellations

pub more_go : (d : Downtime) (t : ℕ) (C : Type 0) (ds new : List Downtime) → AreIds (length ds) new → Goes d t C ds → Goes d t C (ds ++ new)
more_go d t C ds new ids g =
    let first : length ds ≡ 0 + length ds = omega arith in
    record { ids = more_ids 0 ds new g.ids (subst (λ (n : ℕ). AreIds n new) first ids); at = g.at; there = more_record ds new d.id g.at g.there; same = g.same; stage = g.stage }

-- it was entered by the clock, and where it is flexible and starts at the clock, it ends after t
abbrev pub OutlastsFrom : Downtime → (t clock : ℕ) → Type 0
OutlastsFrom d t clock = (d.entered ≤ clock) × (d.plan.times.fixed ≡ false → t < clock + d.plan.times.duration)

-- a flexible downtime that waits for a problem starts at the clock
started_stage : (C : Type 0) (d x : Downtime) (t object clock : ℕ) → x ≡ record d { fate = x.fate } → OutlastsFrom d t clock → IsStage C d t x.fate → waits_for object clock x ≡ true → IsStage C d t (started_by clock x)
started_stage C d x t object clock same young stage h =
    let waits = waits_as object clock x h in
    let was : d.fate ≡ Pending = subst (IsStage C d t) waits.1 stage in
    let flexible : d.plan.times.fixed ≡ false = ap (λ (y : Downtime). y.plan.times.fixed) (sym same) ∙ waits.2 in
    let long : clock + x.plan.times.duration ≡ clock + d.plan.times.duration = ap (λ (y : Downtime). clock + y.plan.times.duration) same in
    inr (was, young.0, long ∙ ap (λ (b : Bool). if b then d.plan.times.end_time else clock + d.plan.times.duration) (sym flexible), λ f. inr (let after = young.1 f in omega (arith, after, long)))

pub started_goes : (d : Downtime) (t : ℕ) (C : Type 0) (object clock : ℕ) (ds : List Downtime) → OutlastsFrom d t clock → Goes d t C ds → Goes d t C (all_started ds object clock)
unfolding all_started
started_goes d t C object clock ds young g = fates_go d t C ds (started object clock) (started_only object clock) g
    (stage_if C d g.at t (started_by clock g.at) (waits_for object clock g.at) g.stage (λ h. started_stage C d g.at t object clock g.same young g.stage h))

pub cancel_goes : (d : Downtime) (t : ℕ) (ds : List Downtime) (id : ℕ) → Goes d t ⊥ ds → Goes d t (depends ds id d.id ≡ true) (cancelled ds id)
unfolding cancelled
cancel_goes d t ds id g =
    let same_id : g.at.id ≡ d.id = ap (λ (y : Downtime). y.id) g.same in
    let more = goes_on d t ⊥ (depends ds id d.id ≡ true) ds (λ (x : ⊥). absurd x) g in
    fates_go d t (depends ds id d.id ≡ true) ds (cancelled_record ds id) (cancelled_only ds id) more
    (stage_if (depends ds id d.id ≡ true) d g.at t Over (depends ds id g.at.id) more.stage (λ h. inr (ap (depends ds id) (sym same_id) ∙ h)))
