-- Who is owed the end of a problem.
use Rattle.std.specs.Prelude.{ℕ, not, ◌==◌, ◌&&◌, nat_lt, if◌then◌else◌, List, [], length, map, Option, Some, None, slice_get}
use Rattle.std.specs.List.{range_with_len}
use Rattle.mon_inventory.specs.declared.records.ObjectSpec.{ObjectSpec}
use Rattle.mon_inventory.specs.Configuration.{Configuration, recovers_the_told}
use Rattle.mon_notify.specs.Ends.{owed_with}
use Rattle.mon_engine.specs.declared.ends.Owed.{Owed}
use Rattle.mon_engine.specs.declared.object.Object.{Object}

-- nobody is owed an end
abbrev pub nobody : Owed
nobody = record { contacts = []; number = 0 }

-- of an object that has had no result
abbrev pub initial_owed : ObjectSpec → Owed
initial_owed spec = nobody

-- who is presumed to be owed the end of the problem of an object, where it is not known who was notified: the object's
-- own contacts that hear of ends, where a problem of it was notified and stands
abbrev pub presumed_of : Configuration → (object : ℕ) → Option ObjectSpec → Option Object → Owed
presumed_of inv object None o = nobody
presumed_of inv object (Some spec) None = nobody
presumed_of inv object (Some spec) (Some o) = if not (o.status.code == 0) && nat_lt 0 o.number then record { contacts = owed_with inv object [] spec.contacts; number = o.number } else nobody

-- of the object of this index
abbrev pub presumed_at : Configuration → List Object → (object : ℕ) → Owed
presumed_at inv os object = presumed_of inv object (slice_get inv.objects object) (slice_get os object)

-- of each object, with the option; without it nobody is owed an end
unfoldable pub presumed : Configuration → List Object → List Owed
presumed inv os = if recovers_the_told inv then map (presumed_at inv os) (range_with_len 0 (length inv.objects)) else map initial_owed inv.objects
