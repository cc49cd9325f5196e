-- Laws over downtimes after any journal: when one is active, and when one may change.
use Rattle.std.specs.Prelude.{◌≡◌, ◌≢◌, ◌⊎◌, ℕ, ◌+◌, ◌<◌, ◌≤◌, true, false, if◌then◌else◌, List, Some}
use Rattle.cmd_types.specs.declared.entry.Entry.{Entry}
use Rattle.mon_downtime.specs.declared.downtime.Downtime.{Downtime}
use Rattle.mon_downtime.specs.declared.downtime.Fate.{Fate}
use Rattle.mon_downtime.specs.declared.downtime.Fate.TheVariants.{Pending, Active, Over}
use Rattle.mon_downtime.specs.Records.{record_of, is_over}
use Rattle.mon_downtime.specs.Times.{StartedInTime, is_active_in}
use Rattle.mon_downtime.specs.Cancel.{depends}
use Rattle.mon_inventory.specs.Configuration.{Configuration}
use Rattle.mon_engine.specs.World.{World}
use Rattle.mon_engine.specs.Downtimes.{has_downtime_by}
use Rattle.mon_engine.specs.Effects as acts
use Rattle.mon_engine.specs.Effects.{Act}
use Rattle.mon_engine.specs.Clock.{advanced}
use Rattle.mon_engine.specs.Step.{step, meaning}
use Rattle.mon_engine.specs.Laws.{moment_of, AppliesOne}

-- ---- a downtime is active only inside its time

-- at t it is active in its time: it started in it by t, and ends after t, a fixed one with its window, a flexible
-- one when its duration is over
pub record IsInItsTime (ds : List Downtime) (d : Downtime) (t since until : ℕ) : Type 0 where
  pub started : StartedInTime ds d since
  pub begun : since ≤ t
  pub ends : until ≡ (if d.plan.times.fixed then d.plan.times.end_time else since + d.plan.times.duration)
  pub not_ended : t < until

-- at t its time has not come: its window has not ended; one with a trigger waits for it; a fixed one without waits
-- for its window
pub record IsToCome (ds : List Downtime) (d : Downtime) (t : ℕ) : Type 0 where
  pub before_end : t < d.plan.times.end_time
  pub trigger : d.plan.times.trigger_id ≢ 0 → is_active_in (record_of ds d.plan.times.trigger_id) ≡ false
  pub before_window : d.plan.times.trigger_id ≡ 0 → d.plan.times.fixed ≡ true → t < d.plan.times.start_time

-- at t a downtime that is not over has the fate of its time
abbrev pub KeepsItsTime : List Downtime → Downtime → (t : ℕ) → Fate → Type 0
KeepsItsTime ds d t Pending = IsToCome ds d t
KeepsItsTime ds d t (Active since until) = IsInItsTime ds d t since until
KeepsItsTime ds d t Over = Unit {0}

-- after any journal each downtime keeps its time, at the journal's clock
abbrev pub DowntimesKeepTheirTime : Type 0
DowntimesKeepTheirTime = (inv : Configuration) (journal : List Entry) (d : Downtime) → record_of (meaning inv journal).downtimes d.id ≡ Some d → KeepsItsTime (meaning inv journal).downtimes d (meaning inv journal).clock d.fate

-- ---- a downtime is not lost

-- by t the time of a downtime of this fate is over: that of an active one when it ends, that of a pending one with
-- its window or, where it is flexible and has a trigger, at the earliest its duration after it was entered
abbrev pub TimeIsOver : Downtime → (t : ℕ) → Fate → Type 0
TimeIsOver d t Pending = (d.plan.times.end_time ≤ t) ⊎ ((d.plan.times.fixed ≡ false) × (d.plan.times.trigger_id ≢ 0) × (d.entered + d.plan.times.duration ≤ t))
TimeIsOver d t (Active since until) = until ≤ t
TimeIsOver d t Over = ⊥

-- among these downtimes, the act cancels this one or one that it depends on, which is there, not over, and of the
-- act's kind of object
abbrev pub CancelsDowntime : Configuration → List Downtime → Downtime → Act → Type 0
CancelsDowntime inv ds d (acts.DelDowntime kind id) = (depends ds id d.id ≡ true) × (has_downtime_by inv kind (record_of ds id) ≡ true)
CancelsDowntime inv ds d _ = ⊥

-- an active one of this fate is in its time at t
abbrev pub HasBegun : List Downtime → Downtime → (t : ℕ) → Fate → Type 0
HasBegun ds d t Pending = ⊥
HasBegun ds d t (Active since until) = IsInItsTime ds d t since until
HasBegun ds d t Over = ⊥

-- among these downtimes this one is as it was, or it was pending and has started in its time, which is not over at t
pub record IsStillThere (ds : List Downtime) (d : Downtime) (t : ℕ) : Type 0 where
  pub now : Downtime
  pub there : record_of ds d.id ≡ Some now
  pub same : now ≡ record d { fate = now.fate }
  pub fate : (now.fate ≡ d.fate) ⊎ ((d.fate ≡ Pending) × HasBegun ds d t now.fate)
  pub alive : is_over now.fate ≡ false

-- a downtime that is pending or active is there after an entry, unless its time is over by then, or the entry was
-- applied and asked for its cancellation, or for that of one that it depends on
abbrev pub DowntimeStands : Configuration → World → Entry → Downtime → Type 0
DowntimeStands inv w e d =
    IsStillThere (step inv w e).0.downtimes d (moment_of w e)
    ⊎ (TimeIsOver d (moment_of w e) d.fate ⊎ AppliesOne inv e (step inv w e).1 (CancelsDowntime inv (advanced inv w (moment_of w e)).downtimes d))

-- after any journal each downtime remains, whatever entry comes next
abbrev pub DowntimesStand : Type 0
DowntimesStand = (inv : Configuration) (journal : List Entry) (e : Entry) (d : Downtime) → record_of (meaning inv journal).downtimes d.id ≡ Some d → is_over d.fate ≡ false → DowntimeStands inv (meaning inv journal) e d
