-- What remains, what begins and what is over under a new inventory: laws over the definitions.
use Rattle.std.specs.Prelude.{◌≡◌, ◌≢◌, ◌↔◌, ℕ, ◌<◌, ◌==◌, true, false, if◌then◌else◌, List, length, Some, None, map, filter, slice_get, All, Contains}
use Rattle.mon_notes.specs.declared.comment.Comment.{Comment}
use Rattle.mon_downtime.specs.declared.downtime.Downtime.{Downtime}
use Rattle.mon_downtime.specs.declared.downtime.Fate.TheVariants.{Over}
use Rattle.mon_downtime.specs.Records.{record_of, depth_of}
use Rattle.mon_downtime.specs.Events.{start_of}
use Rattle.mon_notify.specs.declared.contacts.ContactSwitch.{ContactSwitch}
use Rattle.mon_inventory.specs.declared.records.ObjectSpec.{ObjectSpec}
use Rattle.mon_inventory.specs.declared.records.ContactSpec.{ContactSpec}
use Rattle.mon_inventory.specs.Configuration.{Configuration, recovers_the_told}
use Rattle.mon_inventory.specs.Facts.{IsInventory}
use Rattle.mon_notify.specs.Custom.{all_contacts}
use Rattle.mon_notify.specs.Ends.{hears, still_owed}
use Rattle.mon_notify.specs.Escalations.{has_contact}
use Rattle.mon_engine.specs.declared.ends.Owed.{Owed}
use Rattle.mon_engine.specs.declared.object.Object.{Object}
use Rattle.mon_engine.specs.EndLaws.{IsOwed}
use Rattle.mon_engine.specs.Ends.{owed_at}
use Rattle.mon_engine.specs.Objects.{initial_object}
use Rattle.mon_engine.specs.Owed.{nobody}
use Rattle.mon_engine.specs.World.{World, initial_contact}
use Rattle.mon_engine.specs.Saved.{IsSaved}
use Rattle.mon_carry.specs.Names.{IsSameObject, IsNewObject, IsGoneObject, IsSameContact}
use Rattle.mon_carry.specs.Carried.{object_within, comment_at, carried, HasPlaces}

-- ---- what is the same remains

-- an object in both inventories keeps its output, acknowledgement, notification number, last notice, delay, switches,
-- and the moments of its last result and last change, whatever its index; its status is within the new greatest
-- attempt, and a problem that becomes hard in this way begins at the clock
abbrev pub ObjectsStand : Type 0
ObjectsStand = (old new : Configuration) (w : World) (j k : ℕ) (o : Object) → IsInventory old → (same : IsSameObject old.objects new.objects j k) → slice_get w.objects j ≡ Some o →
    slice_get (carried old w new).objects k ≡ Some (object_within w.clock same.is_now.max o)

-- an object in both inventories is unchanged where its attempt is below the new greatest attempt
abbrev pub StatusesStand : Type 0
StatusesStand = (old new : Configuration) (w : World) (j k : ℕ) (o : Object) → IsInventory old → (same : IsSameObject old.objects new.objects j k) → slice_get w.objects j ≡ Some o →
    o.status.attempt < same.is_now.max → slice_get (carried old w new).objects k ≡ Some o

-- the comments of an object in both inventories remain, in order and with their ids, unchanged but for the index
abbrev pub CommentsStand : Type 0
CommentsStand = (old new : Configuration) (w : World) (j k : ℕ) → IsInventory old → IsInventory new → IsSameObject old.objects new.objects j k →
    filter (λ c. c.object == k) (carried old w new).notes.comments ≡ map (comment_at k) (filter (λ c. c.object == j) w.notes.comments)

-- the downtimes of an object in both inventories remain, each at its index of the list and with its id, unchanged but
-- for the index of the object
abbrev pub DowntimesStand : Type 0
DowntimesStand = (old new : Configuration) (w : World) (j k : ℕ) (place : ℕ) (d : Downtime) → IsInventory new → IsSameObject old.objects new.objects j k → slice_get w.downtimes place ≡ Some d → d.object ≡ j →
    slice_get (carried old w new).downtimes place ≡ Some (record d { object = k })

-- an object in both inventories has as many active downtimes as before
abbrev pub DepthsStand : Type 0
DepthsStand = (old new : Configuration) (w : World) (j k : ℕ) → IsInventory old → IsInventory new → IsSameObject old.objects new.objects j k →
    depth_of (carried old w new).downtimes k ≡ depth_of w.downtimes j

-- the switches of a contact remain where its name is in both inventories
abbrev pub ContactsStand : Type 0
ContactsStand = (old new : Configuration) (w : World) (j k : ℕ) (was is_now : ContactSpec) (switch : ContactSwitch) → IsInventory old → slice_get old.contacts j ≡ Some was → slice_get new.contacts k ≡ Some is_now → was.name ≡ is_now.name →
    slice_get w.contacts j ≡ Some switch → slice_get (carried old w new).contacts k ≡ Some switch

-- the contact of this index of the new inventory has the name of one who was owed the end of object j of the old one;
-- it hears of ends of object k of the new one, and is a contact of that object or of one of its escalations
pub record IsStillOwed (old new : Configuration) (w : World) (j k contact : ℕ) : Type 0 where
  pub was : ℕ
  pub same : IsSameContact old.contacts new.contacts was contact
  pub owed : IsOwed w j was
  pub hears : hears new k contact ≡ true
  pub is_of : has_contact contact (all_contacts new k) ≡ true

-- where both inventories have the option `recover_the_told`, a contact is owed the end of the problem of an object in
-- both exactly where it was owed it, is still there, hears of ends of the object, and is a contact of it or of one of
-- its escalations
abbrev pub OwedStands : Type 0
OwedStands = (old new : Configuration) (w : World) (j k contact : ℕ) → IsInventory old → IsInventory new → recovers_the_told old ≡ true → recovers_the_told new ≡ true → IsSameObject old.objects new.objects j k →
    IsOwed (carried old w new) k contact ↔ IsStillOwed old new w j k contact

-- and the end keeps its number
abbrev pub EndsKeepTheirNumbers : Type 0
EndsKeepTheirNumbers = (old new : Configuration) (w : World) (j k : ℕ) → IsInventory old → recovers_the_told old ≡ true → recovers_the_told new ≡ true → IsSameObject old.objects new.objects j k →
    (owed_at (carried old w new) k).number ≡ (owed_at w j).number

-- under the same inventory nothing changes but, perhaps, who is owed the end of a problem
abbrev pub TheSameInventoryChangesNothingElse : Type 0
TheSameInventoryChangesNothingElse = (inv : Configuration) (w : World) → IsInventory inv → IsSaved inv w → record (carried inv w inv) { owed = w.owed } ≡ w

-- all who are owed the end of an object's problem hear of its ends and are its contacts or those of its escalations,
-- and they are in order of the inventory, each once: `still_owed` leaves them as they are
abbrev pub AreStillOwed : Configuration → List Owed → Type 0
AreStillOwed inv owed = (k : ℕ) (x : Owed) → slice_get owed k ≡ Some x → still_owed inv k x.contacts ≡ x.contacts

-- under the same inventory nothing changes, provided that with the option all who are owed an end still are. Entries
-- make only such contacts owed an end (`OnlyItsContactsAreOwed` of mon_engine), but a world that can be saved may have others, as one that was read from an
-- edited text, and a change of the inventory leaves them out
abbrev pub TheSameInventoryChangesNothing : Type 0
TheSameInventoryChangesNothing = (inv : Configuration) (w : World) → IsInventory inv → IsSaved inv w → (recovers_the_told inv ≡ true → AreStillOwed inv w.owed) → carried inv w inv ≡ w

-- ---- what is new begins

-- a new object has had no result and no command
abbrev pub NewObjectsBegin : Type 0
NewObjectsBegin = (old new : Configuration) (w : World) (k : ℕ) (spec : ObjectSpec) → IsInventory old → IsNewObject old.objects new.objects k spec →
    slice_get (carried old w new).objects k ≡ Some (initial_object spec)

-- a new object has no comment
abbrev pub NewObjectsHaveNoComments : Type 0
NewObjectsHaveNoComments = (old new : Configuration) (w : World) (k : ℕ) (spec : ObjectSpec) → IsInventory new → IsNewObject old.objects new.objects k spec →
    All (λ c. c.object ≢ k) (carried old w new).notes.comments

-- each downtime of a new object is over
abbrev pub NewObjectsHaveNoDowntimes : Type 0
NewObjectsHaveNoDowntimes = (old new : Configuration) (w : World) (k : ℕ) (spec : ObjectSpec) → IsInventory new → IsNewObject old.objects new.objects k spec →
    All (λ d. d.object ≡ k → d.fate ≡ Over) (carried old w new).downtimes

-- the switches of a contact whose name is new are on
abbrev pub NewContactsBegin : Type 0
NewContactsBegin = (old new : Configuration) (w : World) (k : ℕ) (spec : ContactSpec) → slice_get new.contacts k ≡ Some spec → All (λ c. c.name ≢ spec.name) old.contacts →
    slice_get (carried old w new).contacts k ≡ Some (initial_contact spec)

-- nobody is owed the end of a new object
abbrev pub NewObjectsOweNobody : Type 0
NewObjectsOweNobody = (old new : Configuration) (w : World) (k : ℕ) (spec : ObjectSpec) → IsInventory old → IsNewObject old.objects new.objects k spec →
    slice_get (carried old w new).owed k ≡ Some nobody

-- a problem of the object was notified and stands, and the contact is one of its own and hears of its ends
pub record IsPresumedOwed (new : Configuration) (k contact : ℕ) (spec : ObjectSpec) (o : Object) : Type 0 where
  pub stands : o.status.code ≢ 0
  pub notified : 0 < o.number
  pub own : has_contact contact spec.contacts ≡ true
  pub hears : hears new k contact ≡ true

-- where the option `recover_the_told` comes, a contact is owed the end of an object's problem exactly where it is
-- presumed to be
abbrev pub WhoIsPresumedWhereTheOptionComes : Type 0
WhoIsPresumedWhereTheOptionComes = (old new : Configuration) (w : World) (k contact : ℕ) (spec : ObjectSpec) (o : Object) → recovers_the_told old ≡ false → recovers_the_told new ≡ true →
    slice_get new.objects k ≡ Some spec → slice_get (carried old w new).objects k ≡ Some o → IsOwed (carried old w new) k contact ↔ IsPresumedOwed new k contact spec o

-- and the end of a problem that stands has the object's notification number
abbrev pub NumbersWhereTheOptionComes : Type 0
NumbersWhereTheOptionComes = (old new : Configuration) (w : World) (k : ℕ) (spec : ObjectSpec) (o : Object) → recovers_the_told old ≡ false → recovers_the_told new ≡ true →
    slice_get new.objects k ≡ Some spec → slice_get (carried old w new).objects k ≡ Some o → (owed_at (carried old w new) k).number ≡ (if o.status.code == 0 then 0 else o.number)

-- ---- what is gone is over

-- the comment was there before, on an object in both inventories
pub record IsOfSameObject (old new : Configuration) (w : World) (c : Comment) : Type 0 where
  pub was : Comment
  pub there : Contains w.notes.comments was
  pub same : IsSameObject old.objects new.objects was.object c.object
  pub as_it_was : c ≡ comment_at c.object was

-- no comment on a gone object is left: each comment that is left was there before, on an object in both inventories
abbrev pub CommentsAreOfObjectsThatStand : Type 0
CommentsAreOfObjectsThatStand = (old new : Configuration) (w : World) → IsInventory new → All (IsOfSameObject old new w) (carried old w new).notes.comments

-- the downtimes of a gone object are over, at object 0
abbrev pub DowntimesOfGoneObjectsAreOver : Type 0
DowntimesOfGoneObjectsAreOver = (old new : Configuration) (w : World) (place : ℕ) (d : Downtime) → IsInventory new → slice_get w.downtimes place ≡ Some d → IsGoneObject old.objects new.objects d.object →
    slice_get (carried old w new).downtimes place ≡ Some (record d { object = 0; fate = Over })

-- a downtime that waits for a trigger of a gone object, and has not started, can no longer start
abbrev pub WhatWaitsForThemDoesNotStart : Type 0
WhatWaitsForThemDoesNotStart = (old new : Configuration) (w : World) (d trigger : Downtime) → IsInventory new → d.plan.times.trigger_id ≢ 0 → record_of w.downtimes d.plan.times.trigger_id ≡ Some trigger → IsGoneObject old.objects new.objects trigger.object →
    start_of (carried old w new).downtimes d ≡ None

-- where the new inventory has no option `recover_the_told`, nobody is owed an end
abbrev pub NobodyIsOwedWithoutTheOption : Type 0
NobodyIsOwedWithoutTheOption = (old new : Configuration) (w : World) → recovers_the_told new ≡ false → All (λ x. x ≡ nobody) (carried old w new).owed

-- ---- the ids and all else are unchanged, and nothing is printed

-- the clock, the program's switches, the greatest id of a comment and the ids of downtimes are unchanged, and the
-- change of the inventory adds no rejection, no notice and no entry
pub record GoesOn (w w' : World) : Type 0 where
  pub clock : w'.clock ≡ w.clock
  pub program : w'.program ≡ w.program
  pub last_id : w'.notes.last_id ≡ w.notes.last_id
  pub downtimes : length w'.downtimes ≡ length w.downtimes
  pub ids : map (λ d. d.id) w'.downtimes ≡ map (λ d. d.id) w.downtimes
  pub rejections : w'.rejections ≡ w.rejections
  pub notices : w'.notices ≡ w.notices
  pub entries : w'.entries ≡ w.entries
  pub before : w'.before ≡ w.before

-- a change of the inventory leaves all else of the world unchanged
abbrev pub AllElseGoesOn : Type 0
AllElseGoesOn = (old new : Configuration) (w : World) → GoesOn w (carried old w new)

-- ---- a carried world can be written and read back

-- a monitor of the new inventory can resume from a carried world
abbrev pub ACarriedWorldIsSaved : Type 0
ACarriedWorldIsSaved = (old new : Configuration) (w : World) → IsInventory old → IsInventory new → IsSaved old w → HasPlaces w new → IsSaved new (carried old w new)
