-- A monitor that printed all, was written and read back, and resumes, does the same as one that never stopped; and the
-- world that entries lead to can be written: laws over the definitions.
use Rattle.std.specs.Prelude.{◌≡◌, ℕ, ◌+◌, ◌≤◌, List, [], ◌∷◌, ◌++◌, length, Option}
use Rattle.cmd_types.specs.declared.entry.Entry.{Entry}
use Rattle.cmd_types.specs.Spelling.{IsWellFormed}
use Rattle.cmd_journal.specs.declared.journal.TheConstants.{GREATEST_LIMIT}
use Rattle.cmd_journal.specs.Journals.{AreInTurn, IsJournal}
use Rattle.mon_inventory.specs.Configuration.{Configuration}
use Rattle.mon_inventory.specs.Facts.{IsInventory}
use Rattle.mon_engine.specs.declared.state.TheConstants.{GREATEST_BEFORE}
use Rattle.mon_engine.specs.World.{World, initial}
use Rattle.mon_engine.specs.Step.{step, meaning_from, meaning}
use Rattle.mon_engine.specs.Telling.{tellings, told_text, forgotten}
use Rattle.mon_engine.specs.Sound.{ever}
use Rattle.mon_engine.specs.Saved.{IsSaved, going_on}

-- ---- going on

-- the world from which a monitor resumes that had printed all before it was written
abbrev pub resumed : World → World
resumed w = going_on (forgotten w)

-- to resume twice is to resume once
abbrev pub GoingOnTwiceIsOnce : Type 0
GoingOnTwiceIsOnce = (w : World) → going_on (going_on w) ≡ going_on w

-- no entry depends on how many there were: from a world that was resumed it leads to the same world, with the same
-- outcome, and is its first entry
abbrev pub TheCountsAreNotRead : Type 0
TheCountsAreNotRead = (inv : Configuration) (w : World) (e : Entry) →
    step inv (going_on w) e ≡ (record (step inv w e).0 { entries = 1; before = ever w }, (step inv w e).1)

-- each entry is counted once, after those before
abbrev pub EachEntryIsCounted : Type 0
EachEntryIsCounted = (inv : Configuration) (w : World) (es : List Entry) →
    ((meaning_from inv w es).entries ≡ w.entries + length es) × ((meaning_from inv w es).before ≡ w.before)

-- so entries mean the same from a world that was resumed, and the world resumed after them is the same
abbrev pub GoingOnMeansTheSame : Type 0
GoingOnMeansTheSame = (inv : Configuration) (w : World) (es : List Entry) →
    (meaning_from inv (going_on w) es ≡ record (meaning_from inv w es) { entries = length es; before = ever w })
    × (going_on (meaning_from inv (going_on w) es) ≡ going_on (meaning_from inv w es))

-- the lines that are printed of the entries are the same
abbrev pub GoingOnTellsTheSame : Type 0
GoingOnTellsTheSame = (inv : Configuration) (clock : Option ℕ) (w : World) (es : List Entry) → tellings inv clock (going_on w) es ≡ tellings inv clock w es

-- ---- a journal in parts

-- a journal in two parts, between which the monitor printed all, was written and read back, leads to the world to which
-- it leads in one
abbrev pub PartsMeanTheSame : Type 0
PartsMeanTheSame = (inv : Configuration) (w : World) (first second : List Entry) →
    resumed (meaning_from inv (resumed (meaning_from inv w first)) second) ≡ resumed (meaning_from inv w (first ++ second))

-- the lines that are printed of the parts, one after the other, are those that are printed of the whole journal
abbrev pub PartsTellTheSame : Type 0
PartsTellTheSame = (inv : Configuration) (clock : Option ℕ) (w : World) (first second : List Entry) →
    (tellings inv clock w (first ++ second) ≡ tellings inv clock w first ++ tellings inv clock (resumed (meaning_from inv w first)) second)
    × (told_text inv clock w (first ++ second) ≡ told_text inv clock w first ++ told_text inv clock (resumed (meaning_from inv w first)) second)

-- ---- what entries lead to can be written

-- the command of each entry is one that a line can have
abbrev pub AreWellFormed : List Entry → Type 0
AreWellFormed [] = Unit {0}
AreWellFormed (e ∷ es) = IsWellFormed e.stamped × AreWellFormed es

-- the entries of a journal are well-formed
abbrev pub JournalsAreWellFormed : Type 0
JournalsAreWellFormed = (earlier es : List Entry) → AreInTurn earlier es → AreWellFormed es

-- the world before the first entry can be written
abbrev pub AnInitialWorldIsSaved : Type 0
AnInitialWorldIsSaved = (inv : Configuration) → IsInventory inv → IsSaved inv (initial inv)

-- the world resumed from one that can be written can be written too
abbrev pub AWorldThatGoesOnIsSaved : Type 0
AWorldThatGoesOnIsSaved = (inv : Configuration) (w : World) → IsSaved inv w → IsSaved inv (going_on w)

-- well-formed entries lead from a world that can be written to one that can, once it has printed all, where their
-- number is within the limits
abbrev pub AWorldOfEntriesIsSaved : Type 0
AWorldOfEntriesIsSaved = (inv : Configuration) (w : World) (es : List Entry) → IsInventory inv → IsSaved inv w → AreWellFormed es → ever w + length es ≤ GREATEST_BEFORE →
    w.entries + length es ≤ GREATEST_LIMIT → IsSaved inv (forgotten (meaning_from inv w es))

-- and the world resumed from there can be written, however many entries this monitor counts
abbrev pub AResumedWorldIsSaved : Type 0
AResumedWorldIsSaved = (inv : Configuration) (w : World) (es : List Entry) → IsInventory inv → IsSaved inv w → AreWellFormed es → ever w + length es ≤ GREATEST_BEFORE →
    IsSaved inv (resumed (meaning_from inv w es))

-- any journal leads from the first entry on to a world that can be written
abbrev pub AWorldOfAJournalIsSaved : Type 0
AWorldOfAJournalIsSaved = (inv : Configuration) (journal : List Entry) → IsInventory inv → IsJournal journal → length journal ≤ GREATEST_BEFORE →
    IsSaved inv (resumed (meaning inv journal)) × (length journal ≤ GREATEST_LIMIT → IsSaved inv (forgotten (meaning inv journal)))
