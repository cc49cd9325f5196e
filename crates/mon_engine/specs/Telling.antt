-- Printing as the run goes: the lines that are printed of entries when they are applied; a monitor which forgets the
-- lines that it printed prints the same of later entries.
use Rattle.std.specs.Prelude.{◌≡◌, ℕ, ◌==◌, not, Bool, false, if◌then◌else◌, List, [], ◌∷◌, ◌++◌, length, drop, map, Option, Some, None}
use Rattle.std.specs.List.{filter, flat_map}
use Rattle.cmd_types.specs.declared.entry.Entry.{Entry}
use Rattle.mon_inventory.specs.Configuration.{Configuration}
use Rattle.mon_engine.specs.declared.outcome.Rejection.{Rejection}
use Rattle.mon_engine.specs.declared.notice.Notice.{Notice}
use Rattle.mon_engine.specs.World.{World, initial}
use Rattle.mon_engine.specs.Step.{step, meaning_from, meaning}
use Rattle.mon_engine.specs.Report.{rejected_line, notice_line}

-- ---- the lines that are printed

-- the text of a printed line
pub data Telling : Type 0 where
  OfRejection : Rejection → Telling
  OfNotice : Notice → Telling

-- a line as in the report
abbrev pub telling_line : Configuration → Telling → List ℕ
telling_line inv (OfRejection r) = rejected_line r
telling_line inv (OfNotice n) = notice_line inv n

-- the entries of this sender are those of the clock feed, whose rejections are not printed
abbrev pub is_clock : (clock : Option ℕ) → (sender : ℕ) → Bool
is_clock None sender = false
is_clock (Some clock) sender = clock == sender

-- these rejections, where they are not of the clock, and then these notices
abbrev pub news : (quiet : Bool) → List Rejection → List Notice → List Telling
news quiet rejections notices = (if quiet then [] else map OfRejection rejections) ++ map OfNotice notices

-- what an entry that leads from one world to the next has added to its lists
abbrev pub news_between : (quiet : Bool) → (before after : World) → List Telling
news_between quiet before after = news quiet (drop (length before.rejections) after.rejections) (drop (length before.notices) after.notices)

-- all that is printed of these entries from this world on: of each in order its rejection, then its notices
unfoldable pub tellings : Configuration → (clock : Option ℕ) → World → List Entry → List Telling
tellings inv clock w [] = []
tellings inv clock w (e ∷ es) = news_between (is_clock clock e.sender) w (step inv w e).0 ++ tellings inv clock (step inv w e).0 es

-- the printed lines of these entries
abbrev pub told_text : Configuration → (clock : Option ℕ) → World → List Entry → List ℕ
told_text inv clock w es = flat_map (telling_line inv) (tellings inv clock w es)

-- the printed lines of a world's notices
abbrev pub notice_lines_of : Configuration → World → List ℕ
notice_lines_of inv w = flat_map (notice_line inv) w.notices

-- the printed lines of the lists of a world: those of its rejections, then those of its notices
abbrev pub lines_of : Configuration → World → List ℕ
lines_of inv w = flat_map rejected_line w.rejections ++ notice_lines_of inv w

-- ---- the lists that were printed are forgotten

-- the world of a monitor that has printed its lists
abbrev pub forgotten : World → World
forgotten w = record w { rejections = []; notices = [] }

-- a world with what was listed before it
abbrev pub with_lists : List Rejection → List Notice → World → World
with_lists rejections notices w = record w { rejections = rejections ++ w.rejections; notices = notices ++ w.notices }

-- no entry reads the lists: from a world without them it leads to the same, with the same outcome, and adds the same
abbrev pub TheListsAreNotRead : Type 0
TheListsAreNotRead = (inv : Configuration) (w : World) (e : Entry) →
    step inv w e ≡ (with_lists w.rejections w.notices (step inv (forgotten w) e).0, (step inv (forgotten w) e).1)

-- so a monitor that has printed its lists prints of further entries the lines that it would have printed
abbrev pub ForgettingTellsTheSame : Type 0
ForgettingTellsTheSame = (inv : Configuration) (clock : Option ℕ) (w : World) (es : List Entry) → tellings inv clock (forgotten w) es ≡ tellings inv clock w es

-- the printed lines of an entry that led from a world without lists to this one
abbrev pub entry_text : Configuration → (quiet : Bool) → World → List ℕ
entry_text inv quiet w = if quiet then notice_lines_of inv w else lines_of inv w

-- the world after one more entry, of a monitor that printed the lists of the entries before
abbrev pub told_on : Configuration → World → List Entry → Entry → World
told_on inv w es e = (step inv (forgotten (meaning_from inv w es)) e).0

-- a monitor that prints after each entry adds the lines of one more entry after those that it printed before
abbrev pub TellingGoesOn : Type 0
TellingGoesOn = (inv : Configuration) (clock : Option ℕ) (w : World) (es : List Entry) (e : Entry) →
    (told_text inv clock w (es ++ e ∷ []) ≡ told_text inv clock w es ++ entry_text inv (is_clock clock e.sender) (told_on inv w es e))
    × (forgotten (meaning_from inv w (es ++ e ∷ [])) ≡ forgotten (told_on inv w es e))

-- ---- all is printed

-- the notices among the printed lines
abbrev pub notices_of : List Telling → List Notice
notices_of [] = []
notices_of (OfRejection r ∷ told) = notices_of told
notices_of (OfNotice n ∷ told) = n ∷ notices_of told

-- the rejections among the printed lines
abbrev pub rejections_of : List Telling → List Rejection
rejections_of [] = []
rejections_of (OfRejection r ∷ told) = r ∷ rejections_of told
rejections_of (OfNotice n ∷ told) = rejections_of told

-- each notice of a journal's report is printed, in order and once
abbrev pub EachNoticeIsTold : Type 0
EachNoticeIsTold = (inv : Configuration) (clock : Option ℕ) (journal : List Entry) → notices_of (tellings inv clock (initial inv) journal) ≡ (meaning inv journal).notices

-- and each rejection that is not of the clock
abbrev pub EachRejectionIsTold : Type 0
EachRejectionIsTold = (inv : Configuration) (clock : Option ℕ) (journal : List Entry) →
    rejections_of (tellings inv clock (initial inv) journal) ≡ filter (λ r. not (is_clock clock r.sender)) (meaning inv journal).rejections
