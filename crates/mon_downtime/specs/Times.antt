-- A downtime starts in its time, and an event that is not due is still to come.
use Rattle.std.specs.Prelude.{◌≡◌, ◌≢◌, ℕ, ◌<◌, ◌≤◌, Bool, true, false, List, Option, Some, None, All, max}
use Rattle.mon_downtime.specs.declared.downtime.Downtime.{Downtime}
use Rattle.mon_downtime.specs.declared.downtime.Fate.{Fate}
use Rattle.mon_downtime.specs.declared.downtime.Fate.TheVariants.{Pending, Active, Over}
use Rattle.mon_downtime.specs.declared.event.Event.{Event}
use Rattle.mon_downtime.specs.declared.event.EventKind.TheVariants.{Starts}
use Rattle.mon_downtime.specs.Records.{record_of, is_active}
use Rattle.mon_downtime.specs.Events.{start_of, due}

-- a downtime started then with a trigger of this fate: not with a pending one; with an active one as soon as the
-- trigger was active and the downtime was entered
abbrev pub StartedWith : Downtime → (since : ℕ) → Fate → Type 0
StartedWith d since Pending = ⊥
StartedWith d since (Active first until) = since ≡ max first d.entered
StartedWith d since Over = Unit {0}

-- StartedWith, for a trigger that has to be there
abbrev pub StartedBy : Downtime → (since : ℕ) → Option Downtime → Type 0
StartedBy d since None = ⊥
StartedBy d since (Some trigger) = StartedWith d since trigger.fate

-- among these downtimes this one started in its time: once it was entered and before its window ended; with its
-- trigger, where it has one; else inside its window, and a fixed one as soon as that began and it was entered
pub record StartedInTime (ds : List Downtime) (d : Downtime) (since : ℕ) : Type 0 where
  pub entered : d.entered ≤ since
  pub before_end : since < d.plan.times.end_time
  pub trigger : d.plan.times.trigger_id ≢ 0 → StartedBy d since (record_of ds d.plan.times.trigger_id)
  pub window : d.plan.times.trigger_id ≡ 0 → d.plan.times.start_time ≤ since
  pub at_window : d.plan.times.trigger_id ≡ 0 → d.plan.times.fixed ≡ true → since ≡ max d.plan.times.start_time d.entered

-- a downtime that is there is active
abbrev pub is_active_in : Option Downtime → Bool
is_active_in None = false
is_active_in (Some d) = is_active d.fate

-- a start that is due by t is of a pending downtime, of a moment by t, and in time, and its trigger, where it has
-- one, is active; each record is the one with its id
abbrev pub StartsAreInTime : Type 0
StartsAreInTime = (ds : List Downtime) (t : ℕ) (e : Event) (d : Downtime) → All (λ x. record_of ds x.id ≡ Some x) ds → due ds t ≡ Some e → e.kind ≡ Starts → record_of ds e.id ≡ Some d →
    (d.fate ≡ Pending) × (e.moment ≤ t) × StartedInTime ds d e.moment × (d.plan.times.trigger_id ≢ 0 → is_active_in (record_of ds d.plan.times.trigger_id) ≡ true)

-- the events of a downtime of this fate come after t: its expiry and, where its moment is known, its start; its end
abbrev pub IsAfter : List Downtime → Downtime → (t : ℕ) → Fate → Type 0
IsAfter ds d t Pending = (t < d.plan.times.end_time) × ((moment : ℕ) → start_of ds d ≡ Some moment → t < moment)
IsAfter ds d t (Active since until) = t < until
IsAfter ds d t Over = Unit {0}

-- where no event is due by t, the events of each downtime come after t
abbrev pub WhatIsNotDueIsToCome : Type 0
WhatIsNotDueIsToCome = (ds : List Downtime) (t : ℕ) (d : Downtime) → due ds t ≡ None → record_of ds d.id ≡ Some d → IsAfter ds d t d.fate
