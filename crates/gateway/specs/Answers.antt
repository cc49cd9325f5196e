-- The text that is printed, and the status, for feeds that were run, for a bundle and for feeds in files.
use Rattle.std.specs.Prelude.{◌≡◌, ◌≤◌, ◌+◌, ◌*◌, ◌⊎◌, ◌↔◌, ℕ, Bool, true, false, List, [], ◌∷◌, length, Option, Some, Result, MatchResult}
use Rattle.cmd_types.specs.declared.entry.Entry.{Entry}
use Rattle.cmd_types.specs.Entries.{IsSenderCount}
use Rattle.cmd_journal.specs.Journals.{of_sender}
use Rattle.mon_inventory.specs.Configuration.{Configuration}
use Rattle.mon_engine.specs.Report.{report}
use Rattle.mon_engine.specs.Step.{meaning}
use Rattle.cmd_run.specs.declared.ending.SenderReport.{SenderReport}
use Rattle.cmd_run.specs.declared.fault.RunCause.{RunCause}
use Rattle.cmd_run.specs.declared.fault.RunFault.{RunFault}
use Rattle.cmd_dispatch.specs.declared.report.RunReport.{RunReport}
use Rattle.mon_engine.specs.declared.figures.Figures.{Figures}
use Rattle.cmd_run.specs.declared.fault.RunCause.TheVariants.{BadOptions}
use Rattle.cmd_run.specs.Causes.{cause_number, cause_sender}
use Rattle.cmd_run.specs.Senders.{AreOf}
use Rattle.cmd_options.specs.Options.{MayRun}
use Rattle.cmd_dispatch.specs.RunCalls.{Source, sources}
use Rattle.cmd_dispatch.specs.Runs.{AreReported, HasFailed}
use Rattle.cmd_dispatch.specs.Watching.{IsBehind}
use Rattle.cmd_options.specs.declared.mode.Options.{Options}
use Rattle.cmd_options.specs.declared.mode.TheConstants.{MOST_READS}
use Rattle.cmd_answer.specs.Bundles.{IsBundle}
use Rattle.cmd_answer.specs.Files.{IsInFile}
use Rattle.cmd_answer.specs.Printed.{run_text, fault_line, sender_status, IsPrinted, figures_of}

-- ---- feeds that were run, by the bytes that their readers deliver

-- The journal restricted to each feed is exactly the commands of the text that its reader delivered, in order and each
-- once; the printed text is the report of the state to which the journal leads, and the lines on the feeds
pub record HasReport (fed : List Source) (options : Options) (inv : Configuration) (text : List ℕ) (status : ℕ) : Type 0 where
  pub entries : List Entry
  pub reports : List SenderReport
  pub one_each : length reports ≡ length fed
  pub reported_are : AreReported fed entries reports
  pub known : AreOf (length fed) entries
  pub alone : length fed ≡ 1 → of_sender 0 entries ≡ entries
  pub within : length entries ≤ options.run.limit
  pub text_is : text ≡ run_text (report inv (meaning inv entries)) options.asked.journal reports (figures_of options.asked.figures inv entries) entries
  pub status_is : status ≡ sender_status reports

-- The run failed: the line of its cause comes instead of the report, the figures are those of the published list, and
-- the journal is that of the fault
pub record HasFault (fed : List Source) (options : Options) (inv : Configuration) (text : List ℕ) : Type 0 where
  pub cause : RunCause
  pub entries : List Entry
  pub reports : List SenderReport
  pub failed : HasFailed (record { sources = fed; limit = options.run.limit; inventory = inv }) cause entries reports
  pub in_range : (cause ≡ BadOptions) ↔ (MayRun (length fed) options.run → ⊥)
  pub published : List Entry
  pub behind : IsBehind cause entries published
  pub text_is : text ≡ run_text (fault_line (cause_number cause) (cause_sender cause)) options.asked.journal reports (figures_of options.asked.figures inv published) entries

-- the text and the status for feeds that were run
abbrev pub AnswersFeeds : List Source → Options → Configuration → (text : List ℕ) → (status : ℕ) → Type 0
AnswersFeeds fed options inv text status = HasReport fed options inv text status ⊎ ((status ≡ 3) × HasFault fed options inv text)

-- ---- a bundle

-- each feed is at its end before the last read of a run that reads pieces of `piece` bytes
abbrev pub AreShort : (piece : ℕ) → List (List ℕ) → Type 0
AreShort piece [] = Unit {0}
AreShort piece (feed ∷ feeds) = (length feed + piece ≤ MOST_READS * piece) × AreShort piece feeds

-- The text to be printed for a bundle, and the status. With status 0 or 1 it is the text for the feeds, where each feed
-- is short
pub record Answers (options : Options) (input text : List ℕ) (status : ℕ) : Type 0 where
  pub configuration : Configuration
  pub feeds : List (List ℕ)
  pub bundle : IsBundle input configuration feeds
  pub ran : AnswersFeeds (sources Some (λ _. false) (λ _. true) options.run feeds) options configuration text status
  pub printed : status ≤ 1 → AreShort options.run.piece feeds → IsPrinted options.asked options.run.limit configuration feeds text status

-- ---- feeds in files

module _ {F : Type 0} where
  -- The text and the status for an inventory in a file, which is read to its end, and for feeds in files: `remaining`
  -- has the bytes of each file, where they are known, and each read may fail
  pub record AnswersFiles (remaining : F → Option (List ℕ)) (options : Options) (feeds : ℕ) (text : List ℕ) (status : ℕ) : Type 0 where
    pub configuration : Configuration
    pub inventory_is : IsInFile remaining configuration
    pub files : List F
    pub one_each : length files ≡ feeds
    pub count : IsSenderCount feeds
    pub ran : AnswersFeeds (sources remaining (λ _. true) (λ _. false) options.run files) options configuration text status

-- ---- of private contracts alone

-- the text that is printed for a run, and the status: for a run that failed the line of its cause comes instead of the
-- report
abbrev pub IsRunPrinted : (journal : Bool) → Result RunReport RunFault → Option Figures → (text : List ℕ) → (status : ℕ) → Type 0
IsRunPrinted journal run seen text status = MatchResult run
    (λ r. (text ≡ run_text (report r.monitor.inventory r.monitor.world) journal r.senders.items seen r.journal.entries) × (status ≡ sender_status r.senders.items))
    (λ f. (text ≡ run_text (fault_line (cause_number f.cause) (cause_sender f.cause)) journal f.senders.items seen f.journal.entries) × (status ≡ 3))
