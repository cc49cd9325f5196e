-- A monitor's world under a new inventory: objects and contacts with the same names keep their state, whatever their
-- indices.
use Rattle.std.specs.Prelude.{◌≢◌, ℕ, nat_le, true, if◌then◌else◌, List, [], length, Option, Some, None, map, slice_get}
use Rattle.std.specs.List.{filter_map, range_with_len}
use Rattle.mon_checks.specs.declared.status.Status.{Status}
use Rattle.mon_notes.specs.declared.comment.Comment.{Comment}
use Rattle.mon_downtime.specs.declared.downtime.Downtime.{Downtime}
use Rattle.mon_downtime.specs.declared.downtime.Fate.TheVariants.{Over}
use Rattle.mon_notify.specs.declared.contacts.ContactSwitch.{ContactSwitch}
use Rattle.mon_inventory.specs.declared.records.ObjectSpec.{ObjectSpec}
use Rattle.mon_inventory.specs.declared.records.ContactSpec.{ContactSpec}
use Rattle.mon_inventory.specs.Lookups.{contact_of}
use Rattle.mon_inventory.specs.Configuration.{Configuration, recovers_the_told}
use Rattle.mon_notify.specs.Ends.{still_owed}
use Rattle.mon_engine.specs.declared.ends.Owed.{Owed}
use Rattle.mon_engine.specs.declared.object.Object.{Object}
use Rattle.mon_engine.specs.Objects.{initial_object, since_after}
use Rattle.mon_engine.specs.Owed.{nobody, initial_owed, presumed}
use Rattle.mon_engine.specs.World.{World, initial_contact}
use Rattle.mon_carry.specs.Names.{place_in, place_of, moved, contact_moved}

-- the item at this place, if there is one
abbrev pub item_at : {A : Type 0} → List A → Option ℕ → Option A
item_at xs None = None
item_at xs (Some k) = slice_get xs k

-- ---- objects

-- a status under a new greatest attempt: at or above that attempt the state is hard, and the attempt is the greatest
abbrev pub status_within : (max : ℕ) → Status → Status
status_within max s = if nat_le max s.attempt then record s { hard = true; attempt = max } else s

-- the beginning of an object's hard problem under a new greatest attempt: a problem that becomes hard in this way
-- begins at the clock
abbrev pub since_within : (clock max : ℕ) → Object → Option ℕ
since_within clock max o = if nat_le max o.status.attempt then since_after clock o.status o.moments.since (status_within max o.status) else o.moments.since

-- the state of an object under a new greatest attempt
abbrev pub object_within : (clock max : ℕ) → Object → Object
object_within clock max o = record o { status = status_within max o.status; moments = record o.moments { since = since_within clock max o } }

-- the state of an object under the new inventory: the old state, within the new greatest attempt; a new object has had
-- no result and no command
abbrev pub known_or_first : (clock : ℕ) → ObjectSpec → Option Object → Object
known_or_first clock spec None = initial_object spec
known_or_first clock spec (Some o) = object_within clock spec.max o

-- the state of an object of the new inventory, by the old state of the object with its names
unfoldable pub object_carried : (clock : ℕ) → (old : List ObjectSpec) → List Object → ObjectSpec → Object
object_carried clock old os spec = known_or_first clock spec (item_at os (place_in old spec))

-- the states of all objects of the new inventory
abbrev pub objects_carried : (clock : ℕ) → (old : List ObjectSpec) → List Object → (new : List ObjectSpec) → List Object
objects_carried clock old os new = map (object_carried clock old os) new

-- ---- contacts

-- the old switches of a contact, where it had some; else both are on
abbrev pub switch_or_first : ContactSpec → Option ContactSwitch → ContactSwitch
switch_or_first c None = initial_contact c
switch_or_first c (Some switch) = switch

-- the switches of a contact of the new inventory are those of the contact of its name; a new contact's are on
unfoldable pub contact_carried : (old : List ContactSpec) → List ContactSwitch → ContactSpec → ContactSwitch
contact_carried old switches c = switch_or_first c (item_at switches (contact_of old c.name))

-- ---- who is owed the end of a problem

-- these contacts at their new indices, by their names; those that are gone are left out
unfoldable pub contacts_moved : (old new : List ContactSpec) → List ℕ → List ℕ
contacts_moved old new contacts = filter_map (contact_moved old new) contacts

-- who is owed the end of the problem of the object at this index of the new inventory: of those who were owed it, those
-- who hear of ends of the object there and are contacts of it or of one of its escalations; of a new object nobody
abbrev pub owed_or_nobody : (old new : Configuration) → (object : ℕ) → Option Owed → Owed
owed_or_nobody old new object None = nobody
owed_or_nobody old new object (Some x) = record { contacts = still_owed new object (contacts_moved old.contacts new.contacts x.contacts); number = x.number }

-- the same, by the old list: it is who was owed the end of the old object with the same names that counts
abbrev pub owed_carried_at : (old new : Configuration) → List Owed → (object : ℕ) → Owed
owed_carried_at old new owed object = owed_or_nobody old new object (item_at owed (place_of old.objects (slice_get new.objects object)))

-- of each object of the new inventory
unfoldable pub owed_carried : (old new : Configuration) → List Owed → List Owed
owed_carried old new owed = map (owed_carried_at old new owed) (range_with_len 0 (length new.objects))

-- who is owed the end of each object's problem under the new inventory, whose objects are in these states: where both
-- inventories have the option `recover_the_told`, those who were and still are; where only the new one has it, those
-- who are presumed to be; else nobody
abbrev pub owed_under : (old new : Configuration) → List Object → List Owed → List Owed
owed_under old new os owed =
    if recovers_the_told new then (if recovers_the_told old then owed_carried old new owed else presumed new os) else map initial_owed new.objects

-- ---- comments and downtimes

-- the comment, with this index of its object
abbrev pub comment_at : (object : ℕ) → Comment → Comment
comment_at object c = record c { object = object }

-- the comment at the new index of its object; none where the object is gone
abbrev pub comment_on : Comment → Option ℕ → Option Comment
comment_on c None = None
comment_on c (Some object) = Some (comment_at object c)

-- a comment gets the new index of its object; it is removed if its object is gone
abbrev pub comment_carried : (old new : List ObjectSpec) → Comment → Option Comment
comment_carried old new c = comment_on c (moved old new c.object)

-- the downtime at the new index of its object; over, at object 0, where the object is gone
abbrev pub downtime_on : Downtime → Option ℕ → Downtime
downtime_on d None = record d { object = 0; fate = Over }
downtime_on d (Some object) = record d { object = object }

-- a downtime gets the new index of its object; where the object is gone the downtime is over, at object 0, and stays in
-- the list, so that its id is not assigned again
abbrev pub downtime_carried : (old new : List ObjectSpec) → Downtime → Downtime
downtime_carried old new d = downtime_on d (moved old new d.object)

-- ---- the world

-- the world under the new inventory; the clock, the program's switches, the ids that were assigned, the rejections and
-- notices not printed yet, and the counts are as they were
unfoldable pub carried : (old : Configuration) → World → (new : Configuration) → World
carried old w new = record w {
  notes = record { comments = filter_map (comment_carried old.objects new.objects) w.notes.comments; last_id = w.notes.last_id };
  downtimes = map (downtime_carried old.objects new.objects) w.downtimes;
  objects = objects_carried w.clock old.objects w.objects new.objects;
  contacts = map (contact_carried old.contacts w.contacts) new.contacts;
  owed = owed_under old new (objects_carried w.clock old.objects w.objects new.objects) w.owed;
}

-- where a downtime was ever scheduled, the new inventory has an object
abbrev pub HasPlaces : World → Configuration → Type 0
HasPlaces w new = w.downtimes ≢ [] → new.objects ≢ []
