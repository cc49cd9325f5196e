-- Which part of a world is the first that does not fit an inventory. A part fits if it passes a test that each part
-- passes after at most GREATEST_BEFORE entries; parts that fit are not always ones to which entries can lead.
use Rattle.std.specs.Prelude.{◌≡◌, ◌⊎◌, ℕ, ◌*◌, ◌<◌, ◌≤◌, List, length, Option, Some, None, slice_get, IfSome}
use Rattle.cmd_types.specs.declared.limits.TheConstants.{GREATEST_NUMBER}
use Rattle.mon_notes.specs.Comments.{CommentList, ComesAfter}
use Rattle.mon_downtime.specs.declared.downtime.Downtime.{Downtime}
use Rattle.mon_downtime.specs.Records.{IsRecord}
use Rattle.mon_inventory.specs.declared.limits.TheConstants.{MOST_OBJECTS}
use Rattle.mon_inventory.specs.declared.records.ObjectSpec.{ObjectSpec}
use Rattle.mon_inventory.specs.Configuration.{Configuration}
use Rattle.mon_engine.specs.declared.ends.Owed.{Owed}
use Rattle.mon_engine.specs.declared.object.Object.{Object}
use Rattle.mon_engine.specs.declared.parts.Misfit.{Misfit}
use Rattle.mon_engine.specs.declared.parts.Misfit.TheVariants as part
use Rattle.mon_engine.specs.declared.parts.ResumeFault.{ResumeFault}
use Rattle.mon_engine.specs.declared.parts.ResumeFault.TheVariants as fault
use Rattle.mon_engine.specs.declared.state.TheConstants.{GREATEST_BEFORE}
use Rattle.mon_engine.specs.World.{World}
use Rattle.mon_engine.specs.Saved.{IsSaidComment, IsSaidDowntime, Fits, IsOwedFit}

-- ---- what fits

-- what is known of an object, and its line of the inventory: both are there and the one fits the other, or neither is there
abbrev pub FitsLine : {A : Type 0} → (ObjectSpec → A → Type 0) → Option ObjectSpec → Option A → Type 0
FitsLine fits None None = Unit {0}
FitsLine fits None (Some o) = ⊥
FitsLine fits (Some spec) None = ⊥
FitsLine fits (Some spec) (Some o) = fits spec o

-- what is known at this index fits the line at this index
abbrev pub FitsAt : {A : Type 0} → (ObjectSpec → A → Type 0) → List ObjectSpec → List A → (place : ℕ) → Type 0
FitsAt fits specs known place = FitsLine fits (slice_get specs place) (slice_get known place)

-- the object at this index fits the line at this index
abbrev pub ObjectFits : (before : ℕ) → List ObjectSpec → List Object → (place : ℕ) → Type 0
ObjectFits before specs os place = FitsAt (Fits before) specs os place

-- who is owed the end at this index fits the inventory and the line at this index
abbrev pub OwedFits : Configuration → (before : ℕ) → List Owed → (place : ℕ) → Type 0
OwedFits inv before owed place = FitsAt (λ spec x. IsOwedFit inv before x) inv.objects owed place

-- the comment at this index, if there is one, comes after the one before it, is of one of so many objects, and a
-- command can have said it
abbrev pub CommentFits : (objects : ℕ) → CommentList → (place : ℕ) → Type 0
CommentFits objects notes place =
    ComesAfter notes.last_id notes.comments place × IfSome (slice_get notes.comments place) (λ c. (c.object < objects) × IsSaidComment c)

-- the downtime at this index, if there is one, is a record after those before it, is of one of so many objects, and a
-- command can have said it
abbrev pub DowntimeFits : (objects : ℕ) → List Downtime → (place : ℕ) → Type 0
DowntimeFits objects ds place = IfSome (slice_get ds place) (λ d. IsRecord place d × (d.object < objects) × IsSaidDowntime d)

-- the part that this misfit would name fits, beside the parts before it
abbrev pub PartFits : Configuration → World → Misfit → Type 0
PartFits inv w part.Clock = w.clock ≤ GREATEST_NUMBER
PartFits inv w part.Before = w.before ≤ GREATEST_BEFORE
PartFits inv w (part.Object place) = ObjectFits w.before inv.objects w.objects place
PartFits inv w part.Contacts = length w.contacts ≡ length inv.contacts
PartFits inv w part.LastComment = w.notes.last_id ≤ w.before
PartFits inv w (part.Comment place) = CommentFits (length inv.objects) w.notes place
PartFits inv w part.Downtimes = length w.downtimes ≤ MOST_OBJECTS * w.before
PartFits inv w (part.Downtime place) = DowntimeFits (length inv.objects) w.downtimes place
PartFits inv w (part.Owed place) = OwedFits inv w.before w.owed place

-- ---- which is the first

-- the kinds of parts, in the order in which a state is written
abbrev pub rank : Misfit → ℕ
rank part.Clock = 0
rank part.Before = 1
rank (part.Object place) = 2
rank part.Contacts = 3
rank part.LastComment = 4
rank (part.Comment place) = 5
rank part.Downtimes = 6
rank (part.Downtime place) = 7
rank (part.Owed place) = 8

-- the index of a part among those of its kind
abbrev pub index : Misfit → ℕ
index part.Clock = 0
index part.Before = 0
index (part.Object place) = place
index part.Contacts = 0
index part.LastComment = 0
index (part.Comment place) = place
index part.Downtimes = 0
index (part.Downtime place) = place
index (part.Owed place) = place

-- a part stands before another: it is of an earlier kind, or of the same kind at a lower index
abbrev pub IsBefore : (earlier later : Misfit) → Type 0
IsBefore earlier later = (rank earlier < rank later) ⊎ ((rank earlier ≡ rank later) × (index earlier < index later))

-- the first part that does not fit: it does not, and each part before it does
pub record IsFirstMisfit (inv : Configuration) (w : World) (found : Misfit) : Type 0 where
  pub misfit : PartFits inv w found → ⊥
  pub first : (earlier : Misfit) → IsBefore earlier found → PartFits inv w earlier

-- the fault with which a monitor does not resume from this world is its first misfit, unless memory runs out
abbrev pub NamesFirstMisfit : Configuration → World → ResumeFault → Type 0
NamesFirstMisfit inv w fault.Memory = Unit {0}
NamesFirstMisfit inv w (fault.Misfit found) = IsFirstMisfit inv w found
