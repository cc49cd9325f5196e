-- The queue of events, as a list.
use Rattle.std.specs.Prelude.{◌≡◌, ℕ, ◌+◌, ◌-◌, ◌≤◌, ◌<◌, ◌==◌, ◌&&◌, nat_le, nat_lt, slice_index_or, Bool, true, false, List, [], ◌∷◌, ◌++◌, length, take, drop, Option, Some, None, zero, suc}
use Rattle.std.specs.List.{AllByRecursion}
use Rattle.mon_downtime.specs.declared.event.Event.{Event}
use Rattle.mon_downtime.specs.declared.queue.Queue.{Queue}
use Rattle.mon_downtime.specs.Event.{rank}
use Rattle.mon_downtime.specs.Events.{before}
use Rattle.mon_downtime.specs.Order.{same, Ascending}

-- the events of a queue: those from its start on
abbrev pub queued : Queue → List Event
queued q = drop q.start q.list.items

-- the events of a queue are in order
pub record IsQueue (q : Queue) : Type 0 where
  pub within : q.start ≤ length q.list.items
  pub ascending : Ascending (queued q)

-- ---- of private contracts alone

-- of these events, all before place n come before this event, and none from there on does
pub record IsPlaceOf (es : List Event) (e : Event) (n : ℕ) : Type 0 where
  pub within : n ≤ length es
  pub below : AllByRecursion (λ x. before x e ≡ true) (take n es)
  pub above : AllByRecursion (λ x. before x e ≡ false) (drop n es)

-- of these events, the first n are of moment t or before, and no other is
pub record ArePartedBy (es : List Event) (t n : ℕ) : Type 0 where
  pub within : n ≤ length es
  pub below : AllByRecursion (λ x. nat_le x.moment t ≡ true) (take n es)
  pub above : AllByRecursion (λ x. nat_le x.moment t ≡ false) (drop n es)

-- the last n events that left the queue at its front
abbrev pub retired : ℕ → Queue → List Event
retired n q = take n (drop (q.start - n) q.list.items)

-- the event is at index n of these
pub record IsFoundAt (es : List Event) (e : Event) (n : ℕ) : Type 0 where
  pub within : n < length es
  pub there : (d : Event) → same (slice_index_or es n d) e ≡ true

-- the event is like the first, with one of the `count` ids from the first's on
abbrev pub in_block : Event → ℕ → Event → Bool
in_block first count e = (first.moment == e.moment) && (rank first.kind == rank e.kind) && nat_le first.id e.id && nat_lt e.id (first.id + count)

-- the event is in the block, where there is a first
abbrev pub in_block_of : Option Event → ℕ → Event → Bool
in_block_of None count e = false
in_block_of (Some first) count e = in_block first count e

-- the events of a block, in order
unfoldable pub block : Event → ℕ → List Event
block first zero = []
block first (suc n) = block first n ++ record first { id = first.id + n } ∷ []

-- these events with others put in at place n
abbrev pub put_at : ℕ → List Event → List Event → List Event
put_at n bs es = take n es ++ (bs ++ drop n es)

-- these events with others, so many, in place of those from place n on
abbrev pub written : ℕ → List Event → ℕ → List Event → List Event
written n bs count es = take n es ++ (bs ++ drop (n + count) es)
