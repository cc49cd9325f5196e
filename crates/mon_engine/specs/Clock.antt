-- The clock of a world moves on: the events of downtimes that are due happen in order, each with its notice.
use Rattle.std.specs.Prelude.{◌≡◌, ℕ, ◌≤◌, Option, Some, None, max}
use Rattle.std.specs.List.{fold}
use Rattle.mon_downtime.specs.declared.downtime.Downtime.{Downtime}
use Rattle.mon_downtime.specs.declared.event.Event.{Event}
use Rattle.mon_downtime.specs.declared.event.EventKind.{EventKind}
use Rattle.mon_downtime.specs.declared.event.EventKind.TheVariants.{Ends, Expires, Starts}
use Rattle.mon_downtime.specs.Records.{record_of}
use Rattle.mon_downtime.specs.Events.{due, after_event}
use Rattle.mon_downtime.specs.Clock.{happening}
use Rattle.mon_inventory.specs.Configuration.{Configuration}
use Rattle.mon_engine.specs.declared.notice.Notice.{Notice}
use Rattle.mon_engine.specs.declared.notice.Word.TheVariants.{DowntimeStart, DowntimeEnd}
use Rattle.mon_engine.specs.World.{World}
use Rattle.mon_engine.specs.Notices.{downtime_notice, told}

-- the event that is due first, at or before a second
abbrev pub due_in : World → ℕ → Option Event
due_in w t = due w.downtimes t

-- a start and an end have a notice, an expiry has none; an event is of a record that is there (`IsEventOf`)
abbrev pub event_notice : Configuration → World → EventKind → (moment : ℕ) → Option Downtime → Option Notice
event_notice inv w kind moment None = None
event_notice inv w Ends moment (Some d) = downtime_notice inv w DowntimeEnd moment d.object
event_notice inv w Expires moment (Some d) = None
event_notice inv w Starts moment (Some d) = downtime_notice inv w DowntimeStart moment d.object

-- the notice of an event goes out
abbrev pub told_event : Configuration → World → Event → World
told_event inv w e = told w (event_notice inv w e.kind e.moment (record_of w.downtimes e.id))

-- the downtimes after an event; no notice goes out
abbrev pub with_event : World → Event → World
with_event w e = record w { downtimes = after_event w.downtimes e }

-- an event changes its downtime, and then its notice goes out
unfoldable pub fired : Configuration → World → Event → World
fired inv w e = told_event inv (with_event w e) e

-- all events happen that are due up to t, one after another; the clock stays
unfoldable pub drained : Configuration → World → ℕ → World
drained inv w t = fold (fired inv) w (happening w.downtimes t)

-- all events happen that are due up to t, and the clock is t, or stays where it is later
unfoldable pub advanced : Configuration → World → ℕ → World
advanced inv w t = record (drained inv w t) { clock = max w.clock t }

-- to advance to a and then to b is to advance to b, notices and their order included
abbrev pub LawOfTheClock : Type 0
LawOfTheClock = (inv : Configuration) (w : World) (a b : ℕ) → a ≤ b → advanced inv (advanced inv w a) b ≡ advanced inv w b

-- and afterwards nothing is due
abbrev pub NothingIsLeft : Type 0
NothingIsLeft = (inv : Configuration) (w : World) (t : ℕ) → due_in (advanced inv w t) t ≡ None

-- neither what is due nor an event reads the clock: with another clock the same is due, and it leaves the same
abbrev pub TheClockIsNotRead : Type 0
TheClockIsNotRead = (inv : Configuration) (w : World) (c t : ℕ) (e : Event) →
    (due_in (record w { clock = c }) t ≡ due_in w t) × (fired inv (record w { clock = c }) e ≡ record (fired inv w e) { clock = c })
