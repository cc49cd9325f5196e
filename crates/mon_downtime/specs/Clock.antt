-- The clock moves on: the events that are due happen, in order.
use Rattle.std.specs.Prelude.{◌≡◌, ℕ, ◌≤◌, List, [], ◌∷◌, ◌++◌, Option, Some, None, zero, suc}
use Rattle.std.specs.List.{fold}
use Rattle.mon_downtime.specs.declared.downtime.Downtime.{Downtime}
use Rattle.mon_downtime.specs.declared.event.Event.{Event}
use Rattle.mon_downtime.specs.Events.{due, after_event, work}

-- an event, where there is one, and those after it
abbrev pub and_after : Option Event → (Event → List Event) → List Event
and_after None after = []
and_after (Some e) after = e ∷ after e

-- the event that is due, and then those that are due after it, at most n events
unfoldable pub next_events : ℕ → List Downtime → ℕ → List Event
next_events zero ds t = []
next_events (suc n) ds t = and_after (due ds t) (λ e. next_events n (after_event ds e) t)

-- the events up to t, in order: never more than `work` allows
unfoldable pub happening : List Downtime → ℕ → List Event
happening ds t = next_events (work ds) ds t

-- the records after all events that are due up to t
unfoldable pub advanced : List Downtime → ℕ → List Downtime
advanced ds t = fold after_event ds (happening ds t)

-- the event that is due happens first, and then those after it
abbrev pub WhatIsDueHappens : Type 0
WhatIsDueHappens = (ds : List Downtime) (t : ℕ) → happening ds t ≡ and_after (due ds t) (λ e. happening (after_event ds e) t)

-- to advance to a and then to b is to advance to b, event by event
abbrev pub LawOfTheClock : Type 0
LawOfTheClock = (ds : List Downtime) (a b : ℕ) → a ≤ b →
    (happening ds b ≡ happening ds a ++ happening (advanced ds a) b) × (advanced (advanced ds a) b ≡ advanced ds b)

-- and afterwards nothing is due
abbrev pub NothingIsLeft : Type 0
NothingIsLeft = (ds : List Downtime) (t : ℕ) → due (advanced ds t) t ≡ None
