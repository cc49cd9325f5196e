-- The values that are kept beside the records.
use Rattle.std.specs.Prelude.{◌≡◌, ℕ, ◌*◌, ◌≤◌, true, List, length, vec_capacity}
use Rattle.mon_downtime.specs.declared.downtime.Downtime.{Downtime}
use Rattle.mon_downtime.specs.declared.kept.RecordIndex.{RecordIndex}
use Rattle.mon_downtime.specs.Records.{AreRecords}
use Rattle.mon_downtime.specs.Depths.{AreDepths}
use Rattle.mon_downtime.specs.Listed.{IsListed}
use Rattle.mon_downtime.specs.Links.{AreLinked, AreMarked, AreUnmarked}
use Rattle.mon_downtime.specs.Rings.{AreRings}
use Rattle.mon_downtime.specs.Waiting.{AreWaiting}

-- all that is kept is that of these records
pub record AreKept (ds : List Downtime) (kept : RecordIndex) : Type 0 where
  pub records : AreRecords 0 ds
  pub listed : IsListed ds kept.queue
  pub linked : AreLinked ds kept.links.items
  pub marked : AreMarked ds kept.links.items
  pub counted : AreDepths ds kept.depths
  pub waiting : AreWaiting ds kept.waiting

-- ---- of private contracts alone

-- all that is kept but the events and the downtimes that wait is that of these records, and each has a place
pub record AreNoted (ds : List Downtime) (kept : RecordIndex) : Type 0 where
  pub records : AreRecords 0 ds
  pub linked : AreLinked ds kept.links.items
  pub marked : AreMarked ds kept.links.items
  pub counted : AreDepths ds kept.depths
  pub placed : length kept.waiting.rings.near.items ≡ length ds

-- there is room for n records, their links, two events and an opening of each, and their places in rings; `records` is
-- the room for records
pub record HasRoom (n records : ℕ) (kept : RecordIndex) : Type 0 where
  pub of_records : n ≤ records
  pub of_links : n ≤ vec_capacity kept.links
  pub of_events : 2 * n ≤ vec_capacity kept.queue.list
  pub of_openings : n ≤ vec_capacity kept.waiting.openings.list
  pub of_near : n ≤ vec_capacity kept.waiting.rings.near

-- all that is kept of the first records of n but the events, with room for what is kept of all; none is marked, and
-- the rings are empty
pub record AreRestored (n : ℕ) (ds : List Downtime) (kept : RecordIndex) : Type 0 where
  pub noted : AreNoted ds kept
  pub unmarked : AreUnmarked kept.links.items
  pub ringed : AreRings ds (λ _. true) kept.waiting.rings
  pub of_links : n ≤ vec_capacity kept.links
  pub of_near : n ≤ vec_capacity kept.waiting.rings.near
