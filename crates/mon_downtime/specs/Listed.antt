-- The events in the queue beside the records: which they are, and which are starts by a trigger.
use Rattle.std.specs.Prelude.{◌≡◌, ℕ, ◌*◌, ◌≤◌, ◌==◌, ◌&&◌, not, Bool, true, false, List, [], ◌∷◌, length, Option, Some, None, vec_capacity}
use Rattle.mon_downtime.specs.declared.downtime.Downtime.{Downtime}
use Rattle.mon_downtime.specs.declared.downtime.Fate.{Fate}
use Rattle.mon_downtime.specs.declared.downtime.Fate.TheVariants.{Pending, Active, Over}
use Rattle.mon_downtime.specs.declared.event.Event.{Event}
use Rattle.mon_downtime.specs.declared.event.EventKind.TheVariants.{Ends, Expires}
use Rattle.mon_downtime.specs.declared.queue.Queue.{Queue}
use Rattle.mon_downtime.specs.Records.{record_of}
use Rattle.mon_downtime.specs.Events.{start_of, starts, events_of}
use Rattle.mon_downtime.specs.Order.{has}
use Rattle.mon_downtime.specs.Queue.{IsQueue, queued}
use Rattle.mon_downtime.specs.Cancel.{trigger_of}

-- the event is one of this record, where there is one
abbrev pub has_event : List Downtime → Option Downtime → Event → Bool
has_event ds None e = false
has_event ds (Some d) e = has (events_of ds d) e

-- the event is one of the record with its id
unfoldable pub is_event : List Downtime → Event → Bool
is_event ds e = has_event ds (record_of ds e.id) e

-- the queue has exactly the events of the records, and room for two of each
pub record IsListed (ds : List Downtime) (q : Queue) : Type 0 where
  pub queue : IsQueue q
  pub exact : (e : Event) → has (queued q) e ≡ is_event ds e
  pub room : 2 * length ds ≤ vec_capacity q.list

-- ---- of private contracts alone

-- the start of a downtime of this fate, where it is pending and the moment known
abbrev pub starts_at : List Downtime → Downtime → Fate → List Event
starts_at ds d Pending = starts d.id (start_of ds d)
starts_at ds d (Active since until) = []
starts_at ds d Over = []

-- the start of a record, where it is pending and the moment known
unfoldable pub starts_of : List Downtime → Downtime → List Event
starts_of ds d = starts_at ds d d.fate

-- the expiry or the end of a downtime of this fate
abbrev pub lasts_at : Downtime → Fate → List Event
lasts_at d Pending = record { moment = d.plan.times.end_time; kind = Expires; id = d.id } ∷ []
lasts_at d (Active since until) = record { moment = until; kind = Ends; id = d.id } ∷ []
lasts_at d Over = []

-- the expiry of a pending record, or the end of an active one
unfoldable pub lasts_of : Downtime → List Event
lasts_of d = lasts_at d d.fate

-- the start of a record that is there
abbrev pub starts_in : List Downtime → Option Downtime → List Event
starts_in ds None = []
starts_in ds (Some d) = starts_of ds d

-- the expiry or the end of a record that is there
abbrev pub lasts_in : Option Downtime → List Event
lasts_in None = []
lasts_in (Some d) = lasts_of d

-- the events of a record that is there
abbrev pub events_in : List Downtime → Option Downtime → List Event
events_in ds None = []
events_in ds (Some d) = events_of ds d

-- the event is the start of the record with the id
unfoldable pub is_start : List Downtime → ℕ → Event → Bool
is_start ds id e = has (starts_in ds (record_of ds id)) e

-- the event is the expiry or the end of the record with the id
unfoldable pub is_last : List Downtime → ℕ → Event → Bool
is_last ds id e = has (lasts_in (record_of ds id)) e

-- the event is the start of a record that has this trigger
unfoldable pub hangs_on : List Downtime → ℕ → Event → Bool
hangs_on ds id e = (trigger_of ds e.id == id) && is_start ds e.id e

-- the event is left when the start of the record and the starts of those that it triggers are taken out
abbrev pub rest_of : List Downtime → ℕ → Event → Bool
rest_of ds id e = is_event ds e && not (is_start ds id e) && not (hangs_on ds id e)

-- the queue has events of the records, and room for all
pub record IsPartOf (ds : List Downtime) (q : Queue) : Type 0 where
  pub queue : IsQueue q
  pub some : (e : Event) → has (queued q) e ≡ true → is_event ds e ≡ true
  pub room : 2 * length ds ≤ vec_capacity q.list

-- the records from an id on are pending and as the first of them, but for their ids and objects
pub record AreAlike (ds : List Downtime) (first : ℕ) : Type 0 where
  pub pending : (id : ℕ) (x : Downtime) → first ≤ id → record_of ds id ≡ Some x → x.fate ≡ Pending
  pub alike : (id : ℕ) (d x : Downtime) → record_of ds first ≡ Some d → first ≤ id → record_of ds id ≡ Some x → x ≡ record d { id = x.id; object = x.object }
