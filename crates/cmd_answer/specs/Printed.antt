-- The text that is printed for a run of feeds.
use Rattle.std.specs.Prelude.{◌≡◌, ◌≤◌, ℕ, ◌+◌, ◌&&◌, Bool, true, false, if◌then◌else◌, List, [], ◌∷◌, ◌++◌, length, Option, Some, None, codes, slice_get}
use Rattle.std.specs.List.{flat_map, list_all}
use Rattle.std.specs.Fmt.{decimal}
use Rattle.cmd_types.specs.declared.entry.Entry.{Entry}
use Rattle.cmd_types.specs.Entries.{entries_of}
use Rattle.cmd_types.specs.Spelling.{Timed}
use Rattle.cmd_lines.specs.declared.fault.LineFault.{LineFault}
use Rattle.cmd_lines.specs.Faults.{fault_number, fault_argument}
use Rattle.cmd_lines.specs.Items.{items, commands, refusals}
use Rattle.cmd_journal.specs.Journals.{of_sender}
use Rattle.cmd_journal.specs.Texts.{journal_text}
use Rattle.mon_inventory.specs.Configuration.{Configuration}
use Rattle.mon_engine.specs.declared.figures.Figures.{Figures}
use Rattle.mon_engine.specs.Figures.{figures}
use Rattle.mon_engine.specs.Report.{line, report}
use Rattle.mon_engine.specs.Step.{meaning}
use Rattle.cmd_run.specs.declared.ending.Ending.{Ending}
use Rattle.cmd_run.specs.declared.ending.Ending.TheVariants.{Whole, ReadFailed, TooManyReads, Memory, QueueRefused}
use Rattle.cmd_run.specs.declared.ending.SenderReport.{SenderReport}
use Rattle.cmd_run.specs.Senders.{AreOf}
use Rattle.cmd_options.specs.declared.mode.Asked.{Asked}

-- ---- lines

-- fault;CAUSE;K
abbrev pub fault_line : (cause k : ℕ) → List ℕ
fault_line cause k = line (codes "fault") (decimal cause ∷ decimal k ∷ [])

abbrev pub ending_text : Ending → List ℕ
ending_text Whole = codes "whole"
ending_text ReadFailed = codes "read-failed"
ending_text TooManyReads = codes "too-many-reads"
ending_text Memory = codes "memory"
ending_text QueueRefused = codes "queue-refused"

-- feed;k;ACCEPTED;ENDING
abbrev pub feed_line : (k accepted : ℕ) → Ending → List ℕ
feed_line k accepted ending = line (codes "feed") (decimal k ∷ decimal accepted ∷ ending_text ending ∷ [])

-- refused;k;LINE;FAULT;ARGUMENT
abbrev pub refused_line : ℕ → (ℕ × LineFault) → List ℕ
refused_line k r = line (codes "refused") (decimal k ∷ decimal r.0 ∷ decimal (fault_number r.1) ∷ decimal (fault_argument r.1) ∷ [])

abbrev pub feed_lines : (k accepted : ℕ) → Ending → List (ℕ × LineFault) → List ℕ
feed_lines k accepted ending refused = feed_line k accepted ending ++ flat_map (refused_line k) refused

-- figures;ENTRIES;PROBLEMS;ACKNOWLEDGED;IN_DOWNTIME, where there are figures
abbrev pub figures_part : Option Figures → List ℕ
figures_part None = []
figures_part (Some f) = line (codes "figures") (decimal f.entries ∷ decimal f.problems ∷ decimal f.acknowledged ∷ decimal f.in_downtime ∷ [])

-- the figures of the state to which a journal leads, where they are asked for
abbrev pub figures_of : (asked : Bool) → Configuration → List Entry → Option Figures
figures_of asked inv entries = if asked then Some (figures (meaning inv entries)) else None

-- three dashes
abbrev pub separator_line : List ℕ
separator_line = codes "---" ++ 10 ∷ []

-- where it is asked for, a separator and the text of a journal
abbrev pub journal_part : (journal : Bool) → List Entry → List ℕ
journal_part journal entries = if journal then separator_line ++ journal_text entries else []

-- ---- what the senders report

-- the lines on the feeds of these senders, of which the first is sender k
unfoldable pub sender_lines : (k : ℕ) → List SenderReport → List ℕ
sender_lines k [] = []
sender_lines k (r ∷ reports) = feed_lines k r.accepted r.ending r.refused.items ++ sender_lines (k + 1) reports

abbrev pub is_whole : Ending → Bool
is_whole Whole = true
is_whole ReadFailed = false
is_whole TooManyReads = false
is_whole Memory = false
is_whole QueueRefused = false

abbrev pub refuses_none : List (ℕ × LineFault) → Bool
refuses_none [] = true
refuses_none (r ∷ rs) = false

abbrev pub is_clean : SenderReport → Bool
is_clean r = is_whole r.ending && refuses_none r.refused.items

-- 0 where all feeds are whole and no line is refused, else 1
abbrev pub sender_status : List SenderReport → ℕ
sender_status reports = if list_all is_clean reports then 0 else 1

-- ---- a run

-- the text of a run: `first`, which is the report or the line of the fault, then the lines on the feeds, the line of
-- the figures where there are figures, and the journal where it is asked for
abbrev pub run_text : (first : List ℕ) → (journal : Bool) → List SenderReport → Option Figures → List Entry → List ℕ
run_text first journal reports seen entries = first ++ sender_lines 0 reports ++ figures_part seen ++ journal_part journal entries

-- ---- the text for feeds

abbrev pub commands_of : (feed : List ℕ) → List Timed
commands_of feed = commands (items feed)

abbrev pub refusals_of : (feed : List ℕ) → List (ℕ × LineFault)
refusals_of feed = refusals (items feed)

-- the lines on feeds that are whole: for each feed the number of its commands, and its refused lines
unfoldable pub all_feed_lines : (k : ℕ) → (feeds : List (List ℕ)) → List ℕ
all_feed_lines k [] = []
all_feed_lines k (feed ∷ feeds) = feed_lines k (length (commands_of feed)) Whole (refusals_of feed) ++ all_feed_lines (k + 1) feeds

-- 0 exactly where no line of any feed is refused, else 1
abbrev pub status_of : (feeds : List (List ℕ)) → ℕ
status_of feeds = if list_all (λ feed. refuses_none (refusals_of feed)) feeds then 0 else 1

-- The journal restricted to each feed is exactly the commands that its text spells, in order and each once, and the
-- journal has no other entry; with one feed it is that list
pub record IsInterleaving (feeds : List (List ℕ)) (journal : List Entry) : Type 0 where
  pub known : AreOf (length feeds) journal
  pub each : (k : ℕ) (feed : List ℕ) → slice_get feeds k ≡ Some feed → of_sender k journal ≡ entries_of k (commands_of feed)
  pub alone : (feed : List ℕ) → feeds ≡ feed ∷ [] → journal ≡ entries_of 0 (commands_of feed)

-- the report of the state to which the journal leads, the lines on the feeds, the figures of that state where they are
-- asked for, and this journal where it is asked for
abbrev pub printed : Asked → Configuration → (feeds : List (List ℕ)) → List Entry → List ℕ
printed asked inv feeds entries =
    report inv (meaning inv entries) ++ all_feed_lines 0 feeds ++ figures_part (figures_of asked.figures inv entries) ++ journal_part asked.journal entries

-- the text is printed for the feeds, with this status, for some journal of at most `limit` entries
pub record IsPrinted (asked : Asked) (limit : ℕ) (inv : Configuration) (feeds : List (List ℕ)) (text : List ℕ) (status : ℕ) : Type 0 where
  pub entries : List Entry
  pub interleaved : IsInterleaving feeds entries
  pub within : length entries ≤ limit
  pub text_is : text ≡ printed asked inv feeds entries
  pub status_is : status ≡ status_of feeds
