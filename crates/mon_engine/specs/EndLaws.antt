-- The end goes to who heard the beginning: laws over the definitions, with the option `recover_the_told`.
use Rattle.std.specs.Prelude.{◌≤◌, ◌<◌, ◌+◌, ◌==◌, ◌&&◌, Bool, length, count_by, ◌≡◌, ◌⊎◌, ◌↔◌, ℕ, true, false, List, ◌∷◌, ◌++◌, Some, slice_get, All, Contains}
use Rattle.cmd_types.specs.declared.entry.Entry.{Entry}
use Rattle.mon_inventory.specs.declared.records.ObjectSpec.{ObjectSpec}
use Rattle.mon_inventory.specs.Configuration.{Configuration, recovers_the_told}
use Rattle.mon_notify.specs.Ends.{hears, is_within_reach, one_hears, still_owed}
use Rattle.mon_notify.specs.Escalations.{has_contact}
use Rattle.mon_engine.specs.declared.ends.Owed.{Owed}
use Rattle.mon_engine.specs.declared.notice.Notice.{Notice}
use Rattle.mon_engine.specs.declared.notice.Word.{Word}
use Rattle.mon_engine.specs.declared.notice.Word.TheVariants as words
use Rattle.mon_engine.specs.declared.object.Object.{Object}
use Rattle.mon_engine.specs.Ends.{is_news, owed_at, told_ends, week}
use Rattle.mon_engine.specs.NoticeLaws.{went_out, IsInNoDowntime}
use Rattle.mon_engine.specs.Step.{step, meaning}
use Rattle.mon_engine.specs.World.{World}

-- the contact is owed the end of the object
abbrev pub IsOwed : World → (object contact : ℕ) → Type 0
IsOwed w object c = has_contact c (owed_at w object).contacts ≡ true

-- with an entry a notice of this word about the object goes out to the contact
pub record GoesOut (inv : Configuration) (w : World) (e : Entry) (word : Word) (object contact : ℕ) : Type 0 where
  pub notice : Notice
  pub out : Contains (went_out w (step inv w e).0) notice
  pub word_is : notice.subject.word ≡ word
  pub object_is : notice.subject.object ≡ object
  pub to : has_contact contact notice.contacts ≡ true

-- the object has stood at code 0 for a week or longer
pub record IsOldNews (w : World) (object : ℕ) : Type 0 where
  pub of : Object
  pub there : slice_get w.objects object ≡ Some of
  pub good : of.status.code ≡ 0
  pub old : is_news w.clock of ≡ false

-- ---- with one entry

-- a RECOVERY of an object that has stood at code 0 for less than a week and is in no downtime, while notifications are on;
-- it goes to contacts who were owed the end and whose switch is on, with the number of the end and the moment of the clock
pub record TellsAnEnd (inv : Configuration) (before after : World) (n : Notice) : Type 0 where
  pub of : Object
  pub there : slice_get after.objects n.subject.object ≡ Some of
  pub good : of.status.code ≡ 0
  pub news : after.clock < of.moments.changed + week
  pub program_on : after.program.notifications ≡ true
  pub object_on : of.notify ≡ true
  pub no_downtime : IsInNoDowntime inv after n.subject.object
  pub owed : All (IsOwed before n.subject.object) n.contacts
  pub reached : All (λ c. is_within_reach inv after.contacts n.subject.object c ≡ true) n.contacts
  pub number : n.subject.number ≡ (owed_at before n.subject.object).number
  pub moment : n.subject.moment ≡ after.clock
  pub code : n.subject.code ≡ 0

-- each RECOVERY that goes out with an entry is such a one
abbrev pub ARecoveryGoesToWhoIsOwedIt : Type 0
ARecoveryGoesToWhoIsOwedIt = (inv : Configuration) (w : World) (e : Entry) → recovers_the_told inv ≡ true →
    All (λ n. n.subject.word ≡ words.Recovery → TellsAnEnd inv w (step inv w e).0 n) (went_out w (step inv w e).0)

-- the word of the end of a problem
abbrev pub is_recovery_word : Word → Bool
is_recovery_word words.Recovery = true
is_recovery_word word = false

-- the notice is a RECOVERY of the object
abbrev pub is_recovery_of : (object : ℕ) → Notice → Bool
is_recovery_of object n = is_recovery_word n.subject.word && (n.subject.object == object)

-- of each object one RECOVERY at most goes out with an entry
abbrev pub OneRecoveryAnObject : Type 0
OneRecoveryAnObject = (inv : Configuration) (w : World) (e : Entry) (object : ℕ) → recovers_the_told inv ≡ true → count_by (is_recovery_of object) (went_out w (step inv w e).0) ≤ 1

-- something holds notices of the object back: the switch of the program or of the object is off, or a downtime of it or of
-- its host is active
abbrev pub IsHeldBack : Configuration → World → (object : ℕ) → Object → Type 0
IsHeldBack inv w object o = (w.program.notifications ≡ false) ⊎ ((o.notify ≡ false) ⊎ (IsInNoDowntime inv w object → ⊥))

-- after an entry nobody is owed an end who could be told of it, and nobody one that is no news
abbrev pub NobodyIsOwedWhoCouldBeTold : Type 0
NobodyIsOwedWhoCouldBeTold = (inv : Configuration) (w : World) (e : Entry) (object c : ℕ) (spec : ObjectSpec) (o : Object) → recovers_the_told inv ≡ true →
    slice_get inv.objects object ≡ Some spec → slice_get (step inv w e).0.objects object ≡ Some o → o.status.code ≡ 0 → IsOwed (step inv w e).0 object c →
    (is_news (step inv w e).0.clock o ≡ true) × (IsHeldBack inv (step inv w e).0 object o ⊎ (is_within_reach inv (step inv w e).0.contacts object c ≡ false))

-- the notice is a PROBLEM of the object to one who hears of its end
pub record IsBeginning (inv : Configuration) (object : ℕ) (n : Notice) : Type 0 where
  pub word_is : n.subject.word ≡ words.Problem
  pub object_is : n.subject.object ≡ object
  pub heard : one_hears inv object n.contacts ≡ true

-- the number of the end is that of the last such notice
abbrev pub TheEndHasTheNumberOfTheProblem : Type 0
TheEndHasTheNumberOfTheProblem = (inv : Configuration) (w : World) (e : Entry) (object : ℕ) → recovers_the_told inv ≡ true → object < length w.owed →
    (All (λ n. IsBeginning inv object n → ⊥) (went_out w (step inv w e).0) × ((owed_at (step inv w e).0 object).number ≡ (owed_at w object).number))
    ⊎ ((n : Notice) × Contains (went_out w (step inv w e).0) n × IsBeginning inv object n × ((owed_at (step inv w e).0 object).number ≡ n.subject.number))

-- the ends that are told add notices and change who is owed an end, and nothing else
abbrev pub EndsChangeNothingElse : Type 0
EndsChangeNothingElse = (inv : Configuration) (w : World) → told_ends inv w ≡ record w { notices = (told_ends inv w).notices; owed = (told_ends inv w).owed }

-- ---- after a journal

-- a PROBLEM of the object went out to the contact, who hears of ends, with an entry of the journal; since then no RECOVERY
-- of the object went out to it, and after no entry had the object stood at code 0 for a week or longer
pub record HeardTheBeginning (inv : Configuration) (journal : List Entry) (object c : ℕ) : Type 0 where
  pub before : List Entry
  pub with_it : Entry
  pub after : List Entry
  pub parts : journal ≡ before ++ with_it ∷ after
  pub hears : hears inv object c ≡ true
  pub told : GoesOut inv (meaning inv before) with_it words.Problem object c
  pub untold : (since : List Entry) (e : Entry) (rest : List Entry) → after ≡ since ++ e ∷ rest → GoesOut inv (meaning inv (before ++ with_it ∷ since)) e words.Recovery object c → ⊥
  pub news : (since rest : List Entry) → after ≡ since ++ rest → IsOldNews (meaning inv (before ++ with_it ∷ since)) object → ⊥

-- exactly those are owed the end who heard the beginning
abbrev pub TheEndGoesToWhoHeardTheBeginning : Type 0
TheEndGoesToWhoHeardTheBeginning = (inv : Configuration) (journal : List Entry) (object c : ℕ) → recovers_the_told inv ≡ true →
    IsOwed (meaning inv journal) object c ↔ HeardTheBeginning inv journal object c

-- the contacts that are owed the end of an object are those whom a change to the same inventory leaves: contacts of the object
-- or of one of its escalations who hear of its ends, in order of the inventory and each once
abbrev pub OnlyItsContactsAreOwed : Type 0
OnlyItsContactsAreOwed = (inv : Configuration) (journal : List Entry) (object : ℕ) (x : Owed) → slice_get (meaning inv journal).owed object ≡ Some x → still_owed inv object x.contacts ≡ x.contacts
