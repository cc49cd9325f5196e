-- The promises of a run that prints while it runs.
use Rattle.std.specs.Prelude.{◌≡◌, ◌<◌, ◌≤◌, ◌⊎◌, ℕ, List, [], length, map, slice_index_or, Option, None, Some, Result, Err, MatchResult}
use Rattle.std.specs.Io.KnownBytes.{Appends}
use Rattle.cmd_types.specs.declared.entry.Entry.{Entry}
use Rattle.cmd_lines.specs.declared.fault.LineFault.{LineFault}
use Rattle.cmd_queue.specs.Lists.{entries}
use Rattle.cmd_queue.specs.Sides.{Settlement}
use Rattle.mon_engine.specs.World.{initial}
use Rattle.mon_engine.specs.Telling.{told_text}
use Rattle.cmd_ledger.specs.Ledgers.{HasToldFrom}
use Rattle.cmd_run.specs.declared.ending.SenderReport.{SenderReport}
use Rattle.cmd_run.specs.declared.fault.RunCause.{RunCause}
use Rattle.cmd_run.specs.declared.fault.RunCause.TheVariants.{BadOptions, Memory, JournalFull, Output}
use Rattle.cmd_dispatch.specs.declared.following.Followed.{Followed}
use Rattle.cmd_dispatch.specs.declared.following.FollowedFeed.{FollowedFeed}
use Rattle.cmd_dispatch.specs.declared.following.FollowFault.{FollowFault}
use Rattle.cmd_dispatch.specs.RunCalls.{RunCall}
use Rattle.cmd_dispatch.specs.Runs.{Outcome, taken_outcome, HasFed, HasPartFed}
use Rattle.cmd_dispatch.specs.Tellings.{HasToldPart, AppendsBeginning}

-- a run that prints and came to its end: the commands taken of each feed are the feed's list of commands, and the
-- printed text is the told lines of all taken entries, in the order in which they were taken, and nothing else
pub record HasFollowed (call : RunCall) (clock : Option ℕ) (before now : Option (List ℕ)) (run : Outcome) (refused : ℕ → List (ℕ × LineFault) → Type 0) : Type 0 where
  pub fed : HasFed call.sources run.reports refused run.settled
  pub told : Appends before now (told_text call.inventory clock (initial call.inventory) (entries run.settled.list))
  pub stands : HasToldFrom call.inventory (initial call.inventory) (entries run.settled.list) run.monitor
  pub within : length (entries run.settled.list) ≤ call.limit

-- a run that prints and failed: it printed the lines of a prefix of the entries that were passed to its log; the cause
-- is a full journal only where more entries than the limit were passed to the log
pub record HasPartFollowed (call : RunCall) (clock : Option ℕ) (before now : Option (List ℕ)) (cause : RunCause) (reports : List SenderReport) (refused : ℕ → List (ℕ × LineFault) → Type 0) : Type 0 where
  pub logged : List Entry
  pub settled : Settlement
  pub fed : HasPartFed call.sources cause logged reports refused settled
  pub told : HasToldPart call.inventory clock logged cause before now
  pub full : cause ≡ JournalFull → call.limit < length logged

-- how a run that prints may fail: as HasPartFollowed; or nothing was started and nothing printed; or all commands were
-- taken, and the last text was not printed whole
abbrev pub HasStopped : RunCall → (clock : Option ℕ) → (before now : Option (List ℕ)) → RunCause → List SenderReport → (refused : ℕ → List (ℕ × LineFault) → Type 0) → Type 0
HasStopped call clock before now cause reports refused =
    HasPartFollowed call clock before now cause reports refused
    ⊎ ((((cause ≡ BadOptions) ⊎ (cause ≡ Memory)) × (reports ≡ []) × (now ≡ before))
    ⊎ ((settled : Settlement) × (cause ≡ Output) × HasFed call.sources reports refused settled × (length (entries settled.list) ≤ call.limit) × HasToldPart call.inventory clock (entries settled.list) cause before now))

module _ {A : Type 0} where
  -- the outcome of a run that keeps no journal
  abbrev pub followed_outcome : Followed A → Outcome
  followed_outcome followed = taken_outcome followed.monitor (map (λ f. f.report) followed.feeds.items) followed.settled

  -- the refused lines that the attendant of the feed at each index has taken; its report lists none of them
  abbrev pub attended_at : (has_taken : A → List (ℕ × LineFault) → Type 0) → List (FollowedFeed A) → ℕ → List (ℕ × LineFault) → Type 0
  attended_at has_taken feeds k refused = (f : FollowedFeed A) → has_taken (slice_index_or feeds k f).attendant refused × ((slice_index_or feeds k f).report.refused.items ≡ [])

-- ---- of private contracts alone

module _ {A : Type 0} where
  -- feeds whose reports list no refused line
  abbrev pub ListNothing : List (FollowedFeed A) → Type 0
  ListNothing feeds = map (λ f. f.report.refused.items) feeds ≡ map (λ _. []) feeds

  -- the result of a run that prints, by its cause: it is made of the report, the text that waited, and the texts that
  -- were printed before and now
  abbrev pub IsFollowedAs : (cause : Option RunCause) → Followed A → (before : Option (List ℕ)) → (waiting : List ℕ) → (now : Option (List ℕ)) → Result (Followed A) (FollowFault A) → Type 0
  IsFollowedAs None followed before waiting now run = MatchResult run
      (λ r. (r ≡ followed) × Appends before now waiting)
      (λ e. (e ≡ record { cause = Output; feeds = followed.feeds }) × AppendsBeginning before now waiting)
  IsFollowedAs (Some c) followed before waiting now run = (run ≡ Err (record { cause = c; feeds = followed.feeds })) × (now ≡ before)
