-- An entry changes no other object and no other downtime: laws over the definitions, for any world that it finds.
use Rattle.std.specs.Prelude.{◌≡◌, ◌⊎◌, ℕ, true, false, List, Some, None, slice_get, Contains}
use Rattle.cmd_types.specs.declared.entry.Entry.{Entry}
use Rattle.mon_downtime.specs.declared.downtime.Downtime.{Downtime}
use Rattle.mon_downtime.specs.declared.downtime.Fate.TheVariants.{Pending}
use Rattle.mon_downtime.specs.declared.event.Event.{Event}
use Rattle.mon_downtime.specs.Records.{record_of}
use Rattle.mon_downtime.specs.Clock.{happening}
use Rattle.mon_inventory.specs.Configuration.{Configuration}
use Rattle.mon_inventory.specs.Lookups.{services_of}
use Rattle.mon_engine.specs.declared.object.Object.{Object}
use Rattle.mon_engine.specs.World.{World}
use Rattle.mon_engine.specs.Results.{is_hard_problem}
use Rattle.mon_engine.specs.Effects as acts
use Rattle.mon_engine.specs.Effects.{Act}
use Rattle.mon_engine.specs.Clock.{advanced}
use Rattle.mon_engine.specs.Step.{effect, acted}
use Rattle.mon_engine.specs.Laws.{moment_of, AppliesOne}
use Rattle.mon_engine.specs.DowntimeLaws.{CancelsDowntime}

-- ---- objects

-- the acts that may change this object: those on it, and those on the services of its host
abbrev pub MayChangeObject : Configuration → (object : ℕ) → Act → Type 0
MayChangeObject inv object (acts.Acknowledge x _ _ _ _ _) = x ≡ object
MayChangeObject inv object (acts.RemoveAcknowledgement x) = x ≡ object
MayChangeObject inv object (acts.CheckResult x _ _) = x ≡ object
MayChangeObject inv object (acts.Set x _) = x ≡ object
MayChangeObject inv object (acts.SetServices host _) = Contains (services_of inv.objects host) object
MayChangeObject inv object (acts.SendCustom x _) = x ≡ object
MayChangeObject inv object _ = ⊥

-- after an entry an object is all that it was, unless the entry was applied and asked for one of these acts; events
-- that are due change no object
abbrev pub OtherObjectsStay : Type 0
OtherObjectsStay = (inv : Configuration) (w : World) (e : Entry) (object : ℕ) (o : Object) → slice_get w.objects object ≡ Some o →
    (slice_get (acted inv w e).0.objects object ≡ Some o) ⊎ AppliesOne inv e (acted inv w e).1 (MayChangeObject inv object)

-- ---- downtimes

-- among these downtimes an event of this one is due by t: its start, its end or its expiry
abbrev pub FallsDue : List Downtime → (t : ℕ) → Downtime → Type 0
FallsDue ds t d = (k : Event) × Contains (happening ds t) k × (k.id ≡ d.id)

-- the acts that may change this downtime, where `after` are the objects that they leave: a result that leaves its
-- object in a hard problem, where it is a flexible one that waits for problems, and a cancellation of it or of one
-- that it depends on
abbrev pub MayChangeDowntime : Configuration → List Downtime → (after : List Object) → Downtime → Act → Type 0
MayChangeDowntime inv ds after d (acts.CheckResult x _ _) = (d.object ≡ x) × (d.fate ≡ Pending) × (d.plan.times.fixed ≡ false) × (d.plan.times.trigger_id ≡ 0) × (is_hard_problem (slice_get after x) ≡ true)
MayChangeDowntime inv ds after d (acts.DelDowntime kind id) = CancelsDowntime inv ds d (acts.DelDowntime kind id)
MayChangeDowntime inv ds after d _ = ⊥

-- after an entry a downtime is all that it was, unless an event of it is due by the moment of the entry, before its
-- effect or after it, or the entry was applied and asked for one of these acts
abbrev pub OtherDowntimesStay : Type 0
OtherDowntimesStay = (inv : Configuration) (w : World) (e : Entry) (d : Downtime) → record_of w.downtimes d.id ≡ Some d →
    (record_of (acted inv w e).0.downtimes d.id ≡ Some d)
    ⊎ ((FallsDue w.downtimes (moment_of w e) d ⊎ FallsDue (effect inv (advanced inv w (moment_of w e)) e).0.downtimes (moment_of w e) d)
    ⊎ AppliesOne inv e (acted inv w e).1 (MayChangeDowntime inv (advanced inv w (moment_of w e)).downtimes (acted inv w e).0.objects d))

-- the acts that schedule a downtime of this object: on it, or on the services of its host
abbrev pub Schedules : Configuration → (object : ℕ) → Act → Type 0
Schedules inv object (acts.Schedule x _) = x ≡ object
Schedules inv object (acts.ScheduleServices host _) = Contains (services_of inv.objects host) object
Schedules inv object _ = ⊥

-- a downtime that is there after an entry and was not before is one that the entry schedules, and the entry was applied
abbrev pub NewDowntimesAreAsked : Type 0
NewDowntimesAreAsked = (inv : Configuration) (w : World) (e : Entry) (d : Downtime) → record_of w.downtimes d.id ≡ None → record_of (acted inv w e).0.downtimes d.id ≡ Some d →
    AppliesOne inv e (acted inv w e).1 (Schedules inv d.object)
