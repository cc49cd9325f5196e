-- The links from a record to the records that it triggers, the last of them first.
use Rattle.std.specs.Prelude.{◌≡◌, ℕ, ◌+◌, ◌-◌, ◌<◌, ◌≤◌, ◌==◌, Bool, true, false, List, length, slice_index_or}
use Rattle.mon_downtime.specs.declared.downtime.Downtime.{Downtime}
use Rattle.mon_downtime.specs.declared.links.Link.{Link}
use Rattle.mon_downtime.specs.Records.{is_live}
use Rattle.mon_downtime.specs.Cancel.{trigger_of, depends}

-- x is the last of the records up to k with that trigger, or 0 where there is none
pub record IsLatest (ds : List Downtime) (trigger k x : ℕ) : Type 0 where
  pub within : x ≤ k
  pub one : 0 < x → trigger_of ds x ≡ trigger
  pub none_after : (y : ℕ) → x < y → y ≤ k → (trigger_of ds y == trigger) ≡ false

-- each record has the last that it triggers, and the last before it with the same trigger
pub record AreLinked (ds : List Downtime) (links : List Link) : Type 0 where
  pub each : length links ≡ length ds
  pub latest : (i : ℕ) (l : Link) → i < length links → IsLatest ds (i + 1) (length ds) (slice_index_or links i l).latest
  pub earlier : (i : ℕ) (l : Link) → i < length links → 0 < trigger_of ds (i + 1) → IsLatest ds (trigger_of ds (i + 1)) i (slice_index_or links i l).earlier

-- the downtime and all that depend on it are over
abbrev pub AreAllOver : List Downtime → ℕ → Type 0
AreAllOver ds x = (y : ℕ) → depends ds x y ≡ true → is_live ds y ≡ false

-- the link of a record that triggers nothing
abbrev pub unlinked : Link
unlinked = record { latest = 0; earlier = 0; all_over = false }

-- the record is marked as one on which only downtimes depend that are over
abbrev pub is_marked : List Link → ℕ → Bool
is_marked links x = (slice_index_or links (x - 1) unlinked).all_over

-- where a record is marked, it and all that depend on it are over
abbrev pub AreMarked : List Downtime → List Link → Type 0
AreMarked ds links = (x : ℕ) → 0 < x → is_marked links x ≡ true → AreAllOver ds x

-- ---- of private contracts alone

-- the downtime of this id does not depend on one that is marked
abbrev pub IsFree : List Downtime → List Link → (id : ℕ) → Type 0
IsFree ds links id = (x : ℕ) → 0 < x → is_marked links x ≡ true → depends ds x id ≡ true → ⊥

-- no record is marked
abbrev pub AreUnmarked : List Link → Type 0
AreUnmarked links = (x : ℕ) → 0 < x → is_marked links x ≡ true → ⊥
