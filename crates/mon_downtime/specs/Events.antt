-- The events of all downtimes: their ends, expiries and starts.
use Rattle.std.specs.Prelude.{◌≡◌, ℕ, ◌+◌, ◌<◌, ◌==◌, ◌&&◌, ◌||◌, nat_lt, nat_le, Bool, if◌then◌else◌, List, [], ◌∷◌, Option, Some, None, max}
use Rattle.std.specs.List.{flat_map}
use Rattle.mon_downtime.specs.declared.downtime.Downtime.{Downtime}
use Rattle.mon_downtime.specs.declared.event.Event.{Event}
use Rattle.mon_downtime.specs.declared.downtime.Fate.{Fate}
use Rattle.mon_downtime.specs.declared.downtime.Fate.TheVariants.{Pending, Active, Over}
use Rattle.mon_downtime.specs.declared.event.EventKind.{EventKind}
use Rattle.mon_downtime.specs.declared.event.EventKind.TheVariants.{Ends, Expires, Starts}
use Rattle.mon_downtime.specs.Event.{rank, key_of}
use Rattle.mon_downtime.specs.Records.{record_of, with_fate, IsSmallFate}

-- a comes before b: by moment, then kind, then id
abbrev pub before : Event → Event → Bool
before a b =
    nat_lt a.moment b.moment
    || ((a.moment == b.moment) && (nat_lt (rank a.kind) (rank b.kind)
    || ((rank a.kind == rank b.kind) && nat_lt a.id b.id)))

-- the earlier of two events
abbrev pub earlier_of : Event → Event → Event
earlier_of a b = if before b a then b else a

-- the earlier of two events, where there are two
abbrev pub first_of : Option Event → Option Event → Option Event
first_of None b = b
first_of (Some a) None = Some a
first_of (Some a) (Some b) = Some (earlier_of a b)

-- the first of these events
unfoldable pub least : List Event → Option Event
least [] = None
least (e ∷ es) = first_of (Some e) (least es)

-- since when a downtime is active
abbrev pub active_since : Fate → Option ℕ
active_since Pending = None
active_since (Active since until) = Some since
active_since Over = None

-- since when a downtime that is there is active
abbrev pub since_of : Option Downtime → Option ℕ
since_of None = None
since_of (Some d) = active_since d.fate

-- a moment, or that at which the downtime was entered where it is later
abbrev pub from_entry : Option ℕ → ℕ → Option ℕ
from_entry None entered = None
from_entry (Some moment) entered = Some (max moment entered)

-- the start of the downtime's window
abbrev pub own_time : Downtime → ℕ
own_time d = d.plan.times.start_time

-- when a pending downtime starts, where that is known: by its trigger, or at its own time where it is fixed
abbrev pub start_of : List Downtime → Downtime → Option ℕ
start_of ds d =
    if d.plan.times.trigger_id == 0
    then (if d.plan.times.fixed then from_entry (Some (own_time d)) d.entered else None)
    else from_entry (since_of (record_of ds d.plan.times.trigger_id)) d.entered

-- the start of the downtime with this id, where its moment is known
abbrev pub starts : ℕ → Option ℕ → List Event
starts id None = []
starts id (Some moment) = record { moment = moment; kind = Starts; id = id } ∷ []

-- the events of a downtime of this fate
abbrev pub events_at : List Downtime → Downtime → Fate → List Event
events_at ds d Pending = record { moment = d.plan.times.end_time; kind = Expires; id = d.id } ∷ starts d.id (start_of ds d)
events_at ds d (Active since until) = record { moment = until; kind = Ends; id = d.id } ∷ []
events_at ds d Over = []

-- the events of one of the records
unfoldable pub events_of : List Downtime → Downtime → List Event
events_of ds d = events_at ds d d.fate

-- all events of the records, whatever their moment
unfoldable pub events : List Downtime → List Event
events ds = flat_map (events_of ds) ds

-- the event, where its moment is t or before
abbrev pub if_by : ℕ → Option Event → Option Event
if_by t None = None
if_by t (Some e) = if nat_le e.moment t then Some e else None

-- the first event, if its moment is t or before
unfoldable pub due : List Downtime → ℕ → Option Event
due ds t = if_by t (least (events ds))

-- the fate that an event gives its record
abbrev pub fate_by : ℕ → EventKind → Downtime → Fate
fate_by moment Ends d = Over
fate_by moment Expires d = Over
fate_by moment Starts d = Active moment (if d.plan.times.fixed then d.plan.times.end_time else moment + d.plan.times.duration)

-- the records after an event
unfoldable pub after_event : List Downtime → Event → List Downtime
after_event ds e = with_fate ds e.id (fate_by e.moment e.kind)

-- how many events of a downtime can still happen, at most
abbrev pub steps_left : Fate → ℕ
steps_left Pending = 2
steps_left (Active since until) = 1
steps_left Over = 0

-- how many events can still happen, at most
unfoldable pub work : List Downtime → ℕ
work [] = 0
work (d ∷ ds) = steps_left d.fate + work ds

-- ---- of private contracts alone

-- the numbers by which events are ordered: the first that differs decides
abbrev pub order_of : Event → ℕ × ℕ
order_of e = (key_of e, e.id)

-- the event is one of the records' events: its record is there, and the event changes its fate
pub record IsEventOf (ds : List Downtime) (e : Event) : Type 0 where
  pub of : Downtime
  pub found : record_of ds e.id ≡ Some of
  pub falls : steps_left (fate_by e.moment e.kind of) < steps_left of.fate

-- and the moments that it gives its record are in range
pub record IsSmallEvent (ds : List Downtime) (e : Event) : Type 0 where
  pub event : IsEventOf ds e
  pub small : IsSmallFate (fate_by e.moment e.kind event.of)
