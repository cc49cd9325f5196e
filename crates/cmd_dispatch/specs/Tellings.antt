-- A log that prints, and what it holds after the entries that were taken.
use Rattle.std.specs.Prelude.{◌≡◌, ◌<◌, ◌≤◌, ◌⊎◌, ℕ, List, [], ◌++◌, length, Option, Some, None}
use Rattle.std.specs.Io.KnownBytes.{Appends}
use Rattle.cmd_types.specs.declared.entry.Entry.{Entry}
use Rattle.cmd_journal.specs.Journals.{IsJournal}
use Rattle.mon_inventory.specs.Configuration.{Configuration}
use Rattle.mon_engine.specs.World.{initial}
use Rattle.mon_engine.specs.Telling.{told_text}
use Rattle.cmd_ledger.specs.declared.ledger.Ledger.{Ledger}
use Rattle.cmd_ledger.specs.Ledgers.{HasApplied}
use Rattle.cmd_run.specs.declared.fault.RunCause.{RunCause}
use Rattle.cmd_run.specs.declared.fault.RunCause.TheVariants.{JournalFull, QueueLost, Output}
use Rattle.cmd_dispatch.specs.Delivered.{BeginsWith}

-- a prefix of the text was appended, and nothing else
pub record AppendsBeginning (old new : Option (List ℕ)) (text : List ℕ) : Type 0 where
  pub part : List ℕ
  pub begins : BeginsWith text part
  pub appended : Appends old new part

-- at any moment while this text is appended, the text of the output is allowed
abbrev pub TextAllowed : (allows : List ℕ → Type 0) → (told : Option (List ℕ)) → (text : List ℕ) → Type 0
TextAllowed allows told text = (before part : List ℕ) → told ≡ Some before → BeginsWith text part → allows (before ++ part)

-- What an output allows, where it does not allow every text: after its old text, any prefix of the lines of a journal
-- that the feeds of the run may have sent
pub record AllowsTelling (allows : List ℕ → Type 0) (of_feeds : List Entry → Type 0) (inv : Configuration) (clock : Option ℕ) (told : Option (List ℕ)) : Type 0 where
  pub before : List ℕ
  pub known : told ≡ Some before
  pub text : (taken : List Entry) (part : List ℕ) → of_feeds taken → IsJournal taken → BeginsWith (told_text inv clock (initial inv) taken) part → allows (before ++ part)

-- every text is allowed, or the texts above
abbrev pub MayTell : (allows : List ℕ → Type 0) → (of_feeds : List Entry → Type 0) → (inv : Configuration) → (clock : Option ℕ) → (told : Option (List ℕ)) → Type 0
MayTell allows of_feeds inv clock told = ((text : List ℕ) → allows text) ⊎ AllowsTelling allows of_feeds inv clock told

-- The output has the told lines of a prefix of these entries, and nothing else; only where the output failed may a part
-- of the next told lines follow them
pub record HasToldPart (inv : Configuration) (clock : Option ℕ) (all : List Entry) (cause : RunCause) (before now : Option (List ℕ)) : Type 0 where
  pub told : List Entry
  pub first : BeginsWith all told
  pub part : List ℕ
  pub whole : (cause ≡ Output → ⊥) → part ≡ []
  pub begins : BeginsWith (told_text inv clock (initial inv) all) (told_text inv clock (initial inv) told ++ part)
  pub appended : Appends before now (told_text inv clock (initial inv) told ++ part)

-- ---- of private contracts alone

-- the printed text and the text that waits are the told lines of the taken entries; after a fault a prefix of these
-- lines was printed
abbrev pub IsToldBy : Option RunCause → Configuration → (clock : Option ℕ) → (taken : List Entry) → Ledger → (waiting written : List ℕ) → Type 0
IsToldBy None inv clock taken ledger waiting written = HasApplied inv clock (initial inv) [] taken written waiting ledger
IsToldBy (Some QueueLost) inv clock taken ledger waiting written = HasApplied inv clock (initial inv) [] taken written waiting ledger
IsToldBy (Some cause) inv clock taken ledger waiting written = BeginsWith (told_text inv clock (initial inv) taken) written

-- only where the output failed may bytes follow the lines of whole entries
abbrev pub IsPart : Option RunCause → List ℕ → Type 0
IsPart (Some Output) part = Unit {0}
IsPart fault part = part ≡ []

-- while the run has not failed, at most `limit` entries were taken; where there was no room for one, more were taken
abbrev pub IsWithin : (limit : ℕ) → Option RunCause → (taken : List Entry) → Type 0
IsWithin limit None taken = length taken ≤ limit
IsWithin limit (Some JournalFull) taken = limit < length taken
IsWithin limit (Some cause) taken = Unit {0}

-- the contents of a log that prints, by the text of its output before and now
pub record IsTelling (limit : ℕ) (inv : Configuration) (clock : Option ℕ) (before : Option (List ℕ)) (fault : Option RunCause) (taken : List Entry) (ledger : Ledger) (waiting : List ℕ) (now : Option (List ℕ)) : Type 0 where
  pub written : List ℕ
  pub appended : Appends before now written
  pub told : IsToldBy fault inv clock taken ledger waiting written
  pub gone : List Entry
  pub first : BeginsWith taken gone
  pub part : List ℕ
  pub written_is : written ≡ told_text inv clock (initial inv) gone ++ part
  pub part_is : IsPart fault part
  pub within : IsWithin limit fault taken
