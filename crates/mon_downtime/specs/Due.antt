-- The event that is due, said without how it is found.
use Rattle.std.specs.Prelude.{◌≡◌, ℕ, ◌<◌, ◌≤◌, false, List, Option, Some, None, Contains}
use Rattle.std.specs.List.{AllByRecursion}
use Rattle.mon_downtime.specs.declared.downtime.Downtime.{Downtime}
use Rattle.mon_downtime.specs.declared.event.Event.{Event}
use Rattle.mon_downtime.specs.Events.{before, events, due}

-- e is one of these events, and no other comes before it
pub record IsFirst (es : List Event) (e : Event) : Type 0 where
  pub one : Contains es e
  pub none_before : AllByRecursion (λ f. before f e ≡ false) es

-- the event that is due is the first of all, if its moment has come; where none is due, no event's moment has come
abbrev pub IsDue : List Event → ℕ → Option Event → Type 0
IsDue es t None = AllByRecursion (λ f. t < f.moment) es
IsDue es t (Some e) = IsFirst es e × (e.moment ≤ t)

-- the event that `due` finds is the one that is due
abbrev pub DueIsFirst : Type 0
DueIsFirst = (ds : List Downtime) (t : ℕ) → IsDue (events ds) t (due ds t)
