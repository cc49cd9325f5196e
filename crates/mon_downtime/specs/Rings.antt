-- The downtimes that await a problem, of each object in a ring of its own.
use Rattle.std.specs.Prelude.{◌≡◌, ℕ, ◌<◌, ◌≤◌, ◌-◌, ◌==◌, ◌&&◌, ◌||◌, not, nat_le, nat_lt, Bool, true, false, if◌then◌else◌, List, length, Option, Some, None, All, slice_index_or}
use Rattle.mon_downtime.specs.declared.downtime.Downtime.{Downtime}
use Rattle.mon_downtime.specs.declared.rings.Neighbours.{Neighbours}
use Rattle.mon_downtime.specs.declared.rings.Rings.{Rings}
use Rattle.mon_downtime.specs.Records.{record_of}
use Rattle.mon_downtime.specs.Problem.{is_pending}

-- a flexible pending downtime that no trigger starts waits for problems, whatever its window
abbrev pub awaits : Downtime → Bool
awaits d = is_pending d.fate && not d.plan.times.fixed && (d.plan.times.trigger_id == 0)

-- the downtime is there, and waits for problems of the object
abbrev pub awaits_in : ℕ → Option Downtime → Bool
awaits_in object None = false
awaits_in object (Some d) = (d.object == object) && awaits d

-- the downtime with the id waits for problems of the object
abbrev pub awaits_at : List Downtime → ℕ → ℕ → Bool
awaits_at ds object id = awaits_in object (record_of ds id)

-- ---- a ring over ids, of which some wait

-- the places of a ring: its end, which is 0, and each id that waits
abbrev pub is_place : (ℕ → Bool) → ℕ → Bool
is_place waits p = (p == 0) || waits p

-- x is the least id above p that waits, or 0 where none does
pub record IsNext (waits : ℕ → Bool) (p x : ℕ) : Type 0 where
  pub one : 0 < x → (p < x) × (waits x ≡ true)
  pub least : (y : ℕ) → p < y → waits y ≡ true → (0 < x) × (x ≤ y)

-- from each place the next leads on to the next id that waits, and the previous leads back
pub record IsRing (waits : ℕ → Bool) (next previous : ℕ → ℕ) : Type 0 where
  pub follows : (p : ℕ) → is_place waits p ≡ true → IsNext waits p (next p)
  pub place : (p : ℕ) → is_place waits p ≡ true → is_place waits (previous p) ≡ true
  pub back : (p : ℕ) → is_place waits p ≡ true → next (previous p) ≡ p

-- ---- as it is kept

-- the neighbours of the end of an empty ring
abbrev pub nobody : Neighbours
nobody = record { next = 0; previous = 0 }

-- the neighbours of a place of the object's ring
abbrev pub at_place : Rings → ℕ → ℕ → Neighbours
at_place rings object p = if p == 0 then slice_index_or rings.ends.items object nobody else slice_index_or rings.near.items (p - 1) nobody

-- the place after a place of the object's ring
abbrev pub next_of : Rings → ℕ → ℕ → ℕ
next_of rings object p = (at_place rings object p).next

-- the place before a place of the object's ring
abbrev pub previous_of : Rings → ℕ → ℕ → ℕ
previous_of rings object p = (at_place rings object p).previous

-- the downtime with the id waits for problems of the object, and is not among those left out
abbrev pub is_in : List Downtime → (out : ℕ → Bool) → ℕ → ℕ → Bool
is_in ds out object id = awaits_at ds object id && not (out id)

-- the ring of each object has exactly its downtimes that wait, but for those left out, in order of their ids
pub record AreRings (ds : List Downtime) (out : ℕ → Bool) (rings : Rings) : Type 0 where
  pub each : length rings.near.items ≡ length ds
  pub ends : All (λ d. d.object < length rings.ends.items) ds
  pub ring : (object : ℕ) → IsRing (is_in ds out object) (next_of rings object) (previous_of rings object)

-- ---- of private contracts alone

-- of the two places around a place of the object's ring, the one before has another `next`, and the one after
-- another `previous`; all else is as it was
pub record AreTied (old new : Rings) (object : ℕ) (around to : Neighbours) : Type 0 where
  pub next : next_of new object around.previous ≡ to.next
  pub other_nexts : (o q : ℕ) → (q == around.previous) ≡ false → next_of new o q ≡ next_of old o q
  pub next_ends : (o : ℕ) → (o == object) ≡ false → next_of new o 0 ≡ next_of old o 0
  pub previous : previous_of new object around.next ≡ to.previous
  pub other_previous : (o q : ℕ) → (q == around.next) ≡ false → previous_of new o q ≡ previous_of old o q
  pub previous_ends : (o : ℕ) → (o == object) ≡ false → previous_of new o 0 ≡ previous_of old o 0
  pub near : length new.near.items ≡ length old.near.items
  pub ends : length new.ends.items ≡ length old.ends.items

-- the downtime is there, and its window holds the clock
abbrev pub is_open_in : ℕ → Option Downtime → Bool
is_open_in clock None = false
is_open_in clock (Some d) = nat_le d.plan.times.start_time clock && nat_lt clock d.plan.times.end_time

-- the window of the downtime with the id holds the clock
abbrev pub is_open : List Downtime → ℕ → ℕ → Bool
is_open ds clock id = is_open_in clock (record_of ds id)

-- x is the least id that waits for problems of the object and whose window holds the clock, or 0 where there is none
pub record IsFirstOpen (ds : List Downtime) (object clock x : ℕ) : Type 0 where
  pub one : 0 < x → (awaits_at ds object x ≡ true) × (is_open ds clock x ≡ true)
  pub least : (y : ℕ) → awaits_at ds object y ≡ true → is_open ds clock y ≡ true → (0 < x) × (x ≤ y)
