-- The first fault of a text that is no state: its line, counted from 1, and its cause.
use Rattle.std.specs.Prelude.{◌≡◌, ◌≢◌, ◌⊎◌, ℕ, ◌+◌, ◌-◌, ◌==◌, if◌then◌else◌, List, [], ◌∷◌, ◌++◌, length, take, count_by, min, ◌^◌, Some, None, Ok, Err, zero, suc}
use Rattle.mon_inventory.specs.declared.fault.Cause.TheVariants as in_inventory
use Rattle.mon_inventory.specs.Configuration.{Configuration, inventory}
use Rattle.mon_engine.specs.World.{World}
use Rattle.mon_engine.specs.declared.parts.Misfit.{Misfit}
use Rattle.mon_engine.specs.declared.parts.Misfit.TheVariants as part
use Rattle.mon_engine.specs.Saved.{IsSaved}
use Rattle.mon_engine.specs.Misfits.{IsFirstMisfit}
use Rattle.mon_state.specs.declared.fault.StateCause.TheVariants.{BadValue, NotAsWritten, UnknownVersion, Memory}
use Rattle.mon_state.specs.declared.fault.StateFault.{StateFault}
use Rattle.mon_state.specs.declared.file.FileFault.{FileFault}
use Rattle.mon_state.specs.declared.file.FileFault.TheVariants.{NoMark, Inventory, State}
use Rattle.mon_state.specs.declared.version.StateVersion.{StateVersion}
use Rattle.mon_state.specs.Feeds.{Feeds, feeds_text, AreWritable}
use Rattle.mon_state.specs.File.{mark, IsHead}
use Rattle.mon_state.specs.State.{text_of}
use Rattle.mon_state.specs.Version.{IsOfUnknownVersion}
use Rattle.mon_state.specs.Reading.{version_at, world_at}
use Rattle.mon_state.specs.FileReading.{feeds_at, behind_mark}

-- ---- lines

-- the number of the line that has the byte at this index: the line feeds before the byte, and one more
abbrev pub line_at : List ℕ → (place : ℕ) → ℕ
line_at text place = count_by (λ b. b == 10) (take place text) + 1

-- the number of the line in which the rest of a text begins
abbrev pub line_of_rest : (text rest : List ℕ) → ℕ
line_of_rest text rest = line_at text (length text - length rest)

-- the first index at which two texts differ, or the length of the shorter text
unfoldable pub difference : List ℕ → List ℕ → ℕ
difference [] ys = zero
difference (x ∷ xs) [] = zero
difference (x ∷ xs) (y ∷ ys) = if x == y then suc (difference xs ys) else zero

-- ---- a state

-- the text has no heading, or the heading of an unknown version
abbrev pub FailsInHeading : (text : List ℕ) → StateFault → Type 0
FailsInHeading text f = (rest : List ℕ) × (version_at text ≡ Err (f.cause, rest)) × (f.line ≡ 1)

-- after the heading a field is not the expected one: the fault is that of the first such field, in the line in which
-- the field begins
abbrev pub FailsInField : Configuration → (text : List ℕ) → StateFault → Type 0
FailsInField inv text f = (version : StateVersion) × (behind rest : List ℕ) × (version_at text ≡ Ok (version, behind)) × (world_at version inv behind ≡ Err (f.cause, rest)) × (f.line ≡ line_of_rest text rest)

-- the text of this version spells this world
abbrev pub Spells : StateVersion → Configuration → (text : List ℕ) → World → Type 0
Spells version inv text w = (behind : List ℕ) × (version_at text ≡ Ok (version, behind)) × (world_at version inv behind ≡ Ok w)

-- The line in which a part of a state stands. Lines 1 to 4 are the heading, the clock, the entries and the program.
-- After them each object and each contact has a line; then come the greatest id and the number of the comments, each
-- comment, the number of the downtimes, and each downtime; last, where the text says it, who is owed the end of the
-- problem of each object.
abbrev pub line_of_part : (objects contacts comments downtimes : ℕ) → Misfit → ℕ
line_of_part objects contacts comments downtimes part.Clock = 2
line_of_part objects contacts comments downtimes part.Before = 3
line_of_part objects contacts comments downtimes (part.Object place) = 5 + place
line_of_part objects contacts comments downtimes part.Contacts = 5 + objects
line_of_part objects contacts comments downtimes part.LastComment = 5 + objects + contacts
line_of_part objects contacts comments downtimes (part.Comment place) = 6 + objects + contacts + place
line_of_part objects contacts comments downtimes part.Downtimes = 6 + objects + contacts + comments
line_of_part objects contacts comments downtimes (part.Downtime place) = 7 + objects + contacts + comments + place
line_of_part objects contacts comments downtimes (part.Owed place) = 7 + objects + contacts + comments + downtimes + place

-- each field is the expected one, and the world that the fields spell does not fit the inventory: the fault is the
-- first part that does not fit, with its line
abbrev pub FailsToFit : Configuration → (text : List ℕ) → StateFault → Type 0
FailsToFit inv text f =
    (version : StateVersion) × (w : World) × (found : Misfit) × Spells version inv text w × (IsSaved inv w → ⊥) × IsFirstMisfit inv w found
    × (f.cause ≡ BadValue) × (f.line ≡ line_of_part (length inv.objects) (length inv.contacts) (length w.notes.comments) (length w.downtimes) found)

-- the text spells a world that would be written differently: the fault is the first line that differs
abbrev pub IsWrittenOtherwise : Configuration → (text : List ℕ) → StateFault → Type 0
IsWrittenOtherwise inv text f =
    (version : StateVersion) × (w : World) × Spells version inv text w × IsSaved inv w × (text ≢ text_of version inv w) × (f.cause ≡ NotAsWritten) × (f.line ≡ line_at text (difference text (text_of version inv w)))

-- the text begins with the heading of a version that is read
abbrev pub HasHeading : (text : List ℕ) → Type 0
HasHeading text = (version : StateVersion) × (behind : List ℕ) × (version_at text ≡ Ok (version, behind))

-- the fault of a text that is not a state of the inventory: the first that applies of the four above, or out of memory
-- after a heading that is read
abbrev pub IsStateFault : Configuration → (text : List ℕ) → StateFault → Type 0
IsStateFault inv text f = (HasHeading text × (f.cause ≡ Memory)) ⊎ (FailsInHeading text f ⊎ (FailsInField inv text f ⊎ (FailsToFit inv text f ⊎ IsWrittenOtherwise inv text f)))

-- ---- feeds

-- the fault of a text that does not begin with feeds: the first faulty field, else the first line that would be
-- written differently; or out of memory
abbrev pub IsFeedsFault : (text : List ℕ) → StateFault → Type 0
IsFeedsFault text f =
    (f.cause ≡ Memory)
    ⊎ (((rest : List ℕ) × (feeds_at text ≡ Err (f.cause, rest)) × (f.line ≡ line_of_rest text rest))
    ⊎ ((feeds : Feeds) × (rest : List ℕ) × (feeds_at text ≡ Ok (feeds, rest)) × ((behind : List ℕ) → text ≢ feeds_text feeds ++ behind) × (f.cause ≡ NotAsWritten) × (f.line ≡ line_at text (difference text (feeds_text feeds)))))

-- ---- the file

-- the text before the rest of a text
abbrev pub front_of : (text rest : List ℕ) → List ℕ
front_of text rest = take (length text - length rest) text

-- the line of a fault after `front`, where its line was counted from the end of `front`; at most the greatest number that
-- a line can have
abbrev pub line_behind : (front : List ℕ) → (line : ℕ) → ℕ
line_behind front line = min (line_at front (length front) + line) (2 ^ 64 - 1) - 1

-- a fault of the rest of a text, as one of the text
abbrev pub IsBehind : (text rest : List ℕ) → (inner outer : StateFault) → Type 0
IsBehind text rest inner outer = (outer.cause ≡ inner.cause) × (outer.line ≡ line_behind (front_of text rest) inner.line)

-- the text has the mark, after the text of an inventory and before the rest
abbrev pub IsMarked : (text given rest : List ℕ) → Type 0
IsMarked text given rest = (behind_mark [] text ≡ Some rest) × (text ≡ given ++ (mark ++ 10 ∷ rest))

-- the file has an inventory and feeds, followed by a state of an unknown version
abbrev pub HasUnknownVersion : (text : List ℕ) → Type 0
HasUnknownVersion text =
    (given state : List ℕ) × (inv : Configuration) × (feeds : Feeds) × IsHead given × (inventory given ≡ Ok inv) × AreWritable feeds
    × (text ≡ given ++ (mark ++ 10 ∷ (feeds_text feeds ++ state))) × IsOfUnknownVersion state

-- the cause of the fault is an unknown version, or out of memory
abbrev pub IsUnknownOrMemory : FileFault → Type 0
IsUnknownOrMemory NoMark = ⊥
IsUnknownOrMemory (Inventory f) = f.cause ≢ in_inventory.Memory → ⊥
IsUnknownOrMemory (State f) = (f.cause ≡ UnknownVersion) ⊎ (f.cause ≡ Memory)

-- The fault of a text that is not a file `state`: no line is the mark; or the inventory before the mark has a fault; or
-- the rest does not begin with feeds; or it begins with feeds that can be written, and the text after them is not a
-- state of the inventory. Or memory runs out.
abbrev pub IsFileFault : (text : List ℕ) → FileFault → Type 0
IsFileFault text NoMark = behind_mark [] text ≡ None
IsFileFault text (Inventory f) = (given rest : List ℕ) × IsMarked text given rest × (f.cause ≢ in_inventory.Memory → inventory given ≡ Err (f.line, f.cause))
IsFileFault text (State f) =
    (given rest : List ℕ) × (inv : Configuration) × IsMarked text given rest × (inventory given ≡ Ok inv)
    × (((inner : StateFault) × IsFeedsFault rest inner × IsBehind text rest inner f)
    ⊎ ((feeds : Feeds) × (state : List ℕ) × (inner : StateFault) × AreWritable feeds × (rest ≡ feeds_text feeds ++ state) × IsStateFault inv state inner × IsBehind text state inner f))

-- ---- of private contracts alone

-- the text differs from the written text, first in the line of the fault; or memory runs out
abbrev pub IsOtherText : (written text : List ℕ) → StateFault → Type 0
IsOtherText written text f = (f.cause ≡ Memory) ⊎ ((text ≢ written) × (f.cause ≡ NotAsWritten) × (f.line ≡ line_at text (difference text written)))
