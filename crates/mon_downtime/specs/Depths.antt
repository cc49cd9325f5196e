-- The depth of each object, and how many objects are in a downtime.
use Rattle.std.specs.Prelude.{◌≡◌, ℕ, ◌<◌, ◌^◌, nat_lt, Bool, List, length, count_by, All, slice_index_or}
use Rattle.std.specs.List.{range_with_len}
use Rattle.mon_downtime.specs.declared.depths.Depths.{Depths}
use Rattle.mon_downtime.specs.declared.downtime.Downtime.{Downtime}
use Rattle.mon_downtime.specs.Records.{depth_of}

-- at least one downtime of the object is active
abbrev pub is_in_downtime : List Downtime → (object : ℕ) → Bool
is_in_downtime ds object = nat_lt 0 (depth_of ds object)

-- how many of the objects 0 to n - 1 are in a downtime, each counted once
unfoldable pub objects_in_downtime : List Downtime → (n : ℕ) → ℕ
objects_in_downtime ds n = count_by (is_in_downtime ds) (range_with_len 0 n)

-- the index of an object is below this: it has 16 bits
abbrev pub every_object : ℕ
every_object = 2 ^ 16

-- a counter for each object that has a record, each of them its object's depth, and the count of those that are not 0
pub record AreDepths (ds : List Downtime) (depths : Depths) : Type 0 where
  pub all : All (λ d. d.object < length depths.each.items) ds
  pub exact : (object : ℕ) → slice_index_or depths.each.items object 0 ≡ depth_of ds object
  pub busy : depths.in_downtime ≡ objects_in_downtime ds every_object
