-- The code's steps over the objects of the old inventory. No public contract cites them.
use Rattle.std.specs.Prelude.{ℕ, List, Option, Some, None, slice_get, slice_set}
use Rattle.mon_inventory.specs.declared.records.ObjectSpec.{ObjectSpec}
use Rattle.mon_engine.specs.declared.object.Object.{Object}
use Rattle.mon_carry.specs.Carried.{known_or_first}

-- ---- of private contracts alone

-- the objects, with this one at its place, where the new inventory has an object there
abbrev pub with_known_of : (clock : ℕ) → Object → List Object → ℕ → Option ObjectSpec → List Object
with_known_of clock known os place None = os
with_known_of clock known os place (Some spec) = slice_set os place (known_or_first clock spec (Some known))

-- the objects, with this one at its place in the new inventory, if it has one
abbrev pub with_known : (clock : ℕ) → (new : List ObjectSpec) → Object → List Object → Option ℕ → List Object
with_known clock new known os None = os
with_known clock new known os (Some place) = with_known_of clock known os place (slice_get new place)
