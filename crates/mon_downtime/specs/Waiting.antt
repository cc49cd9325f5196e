-- The downtimes that wait for problems: those that have opened are in rings, and the others in a queue, by their openings.
use Rattle.std.specs.Prelude.{◌≡◌, ℕ, ◌≤◌, ◌||◌, nat_le, Bool, true, false, if◌then◌else◌, List, [], ◌∷◌, length, Option, Some, None, vec_capacity}
use Rattle.std.specs.List.{flat_map}
use Rattle.mon_downtime.specs.declared.downtime.Downtime.{Downtime}
use Rattle.mon_downtime.specs.declared.event.Event.{Event}
use Rattle.mon_downtime.specs.declared.event.EventKind.TheVariants.{Starts}
use Rattle.mon_downtime.specs.declared.queue.Queue.{Queue}
use Rattle.mon_downtime.specs.declared.waiting.Waiting.{Waiting}
use Rattle.mon_downtime.specs.Records.{record_of}
use Rattle.mon_downtime.specs.Events.{own_time}
use Rattle.mon_downtime.specs.Order.{has, AreOnce}
use Rattle.mon_downtime.specs.Queue.{IsQueue, queued}
use Rattle.mon_downtime.specs.Rings.{awaits, AreRings, is_open}

-- the opening of a downtime: its window begins
abbrev pub opening : Downtime → Event
opening d = record { moment = own_time d; kind = Starts; id = d.id }

-- the opening of a downtime that waits for problems
abbrev pub openings_of : Downtime → List Event
openings_of d = if awaits d then opening d ∷ [] else []

-- the opening of a downtime that is there and waits for problems
abbrev pub openings_in : Option Downtime → List Event
openings_in None = []
openings_in (Some d) = openings_of d

-- the event is the opening of the downtime with its id, and this one waits for problems
unfoldable pub is_opening : List Downtime → Event → Bool
is_opening ds e = has (openings_in (record_of ds e.id)) e

-- the downtime is there, and its opening is among these events
abbrev pub has_opening : List Event → Option Downtime → Bool
has_opening es None = false
has_opening es (Some d) = has es (opening d)

-- the opening of the downtime with the id is among these events
abbrev pub is_unopened : List Downtime → List Event → ℕ → Bool
is_unopened ds es id = has_opening es (record_of ds id)

-- the queue has openings of downtimes that wait and no other event, and room for all openings
pub record AreOpenings (ds : List Downtime) (q : Queue) : Type 0 where
  pub queue : IsQueue q
  pub some : (e : Event) → has (queued q) e ≡ true → is_opening ds e ≡ true
  pub room : length ds ≤ vec_capacity q.list

-- each downtime that waits is in the ring of its object, or its opening is in the queue
pub record AreWaiting (ds : List Downtime) (w : Waiting) : Type 0 where
  pub openings : AreOpenings ds w.openings
  pub rings : AreRings ds (is_unopened ds (queued w.openings)) w.rings

-- ---- of private contracts alone

-- the opening of the downtime with the id is in the queue, or among the events that are left
abbrev pub is_yet : List Downtime → Queue → (left : List Event) → ℕ → Bool
is_yet ds q left id = is_unopened ds (queued q) id || is_unopened ds left id

-- as AreWaiting, but for the downtimes whose openings left the queue and are left to be moved
pub record AreOpening (ds : List Downtime) (left : List Event) (w : Waiting) : Type 0 where
  pub openings : AreOpenings ds w.openings
  pub rings : AreRings ds (is_yet ds w.openings left) w.rings

-- these openings of downtimes that wait left the queue, each once
pub record HaveLeft (ds : List Downtime) (es : List Event) (q : Queue) : Type 0 where
  pub some : (e : Event) → has es e ≡ true → is_opening ds e ≡ true
  pub once : AreOnce es
  pub apart : (e : Event) → has es e ≡ true → has (queued q) e ≡ false

-- no downtime is open whose opening is in the queue
abbrev pub HaveOpened : List Downtime → Waiting → (clock : ℕ) → Type 0
HaveOpened ds w clock = (x : ℕ) → is_unopened ds (queued w.openings) x ≡ true → is_open ds clock x ≡ false

-- the opening of the downtime with the id is among these events, or the id is `first` or above
abbrev pub is_outside : List Downtime → List Event → (first : ℕ) → ℕ → Bool
is_outside ds es first id = is_unopened ds es id || nat_le first id

-- the openings of all downtimes that wait
unfoldable pub all_openings : List Downtime → List Event
all_openings ds = flat_map openings_of ds
