-- The effect of the program in each mode: the bytes that its streams have afterwards, and its status.
use Rattle.std.specs.Prelude.{◌≡◌, ◌≤◌, ◌⊎◌, ◌++◌, ℕ, true, false, List, [], ◌∷◌, length, map, Option, None, Some, IfSome, MatchOption}
use Rattle.std.specs.Io.KnownBytes.{Appends, Keeps}
use Rattle.cmd_answer.specs.declared.stop.FilesStop.{FilesStop}
use Rattle.cmd_answer.specs.declared.stop.FilesStop.TheVariants.{Other}
use Rattle.cmd_options.specs.declared.mode.FilesCall.{FilesCall}
use Rattle.cmd_options.specs.declared.mode.FollowCall.{FollowCall}
use Rattle.mon_inventory.specs.Configuration.{Configuration}
use Rattle.cmd_types.specs.Entries.{IsSenderCount}
use Rattle.cmd_options.specs.declared.mode.Mode.{Mode}
use Rattle.cmd_options.specs.declared.mode.Mode.TheVariants as modes
use Rattle.cmd_answer.specs.declared.ended.Ended.{Ended}
use Rattle.cmd_answer.specs.declared.stop.Stop.{Stop}
use Rattle.cmd_answer.specs.declared.stop.Stop.TheVariants.{Usage, Memory, Output, Feeds, FeedTwice}
use Rattle.mon_engine.specs.Report.{report}
use Rattle.cmd_recovery.specs.Histories.{History, inventory_of, world_of, told_of}
use Rattle.cmd_words.specs.declared.mode_name.ModeName.{ModeName}
use Rattle.cmd_words.specs.declared.mode_name.ModeName.TheVariants as name
use Rattle.cmd_words.specs.declared.usage.TheConstants.{VERSION_TEXT}
use Rattle.cmd_words.specs.Usage.{usage_of}
use Rattle.gateway.specs.Answers.{Answers, AnswersFiles}
use Rattle.cmd_live.specs.Runs.{start_line}
use Rattle.gateway.specs.Followed.{IsRun, IsRunCutOff, given_feeds, all_feeds}
use Rattle.cmd_dispatch.specs.Tellings.{AppendsBeginning}
use Rattle.cmd_answer.specs.Files.{IsInFile}
use Rattle.cmd_answer.specs.Replayed.{ReportsJournal}
use Rattle.cmd_words.specs.Words.{AreOfWords, HasRanges, mode_named, explain_words}
use Rattle.cmd_explain.specs.Asked.{asked_text, stop_in_words, Explains, StopsExplain}
use Rattle.cmd_answer.specs.Written.{AppendsPart, joined}
use Rattle.cmd_answer.specs.declared.counts.InventoryCounts.{InventoryCounts}
use Rattle.cmd_answer.specs.Counts.{AreCountsOf, counts_line}
use Rattle.cmd_answer.specs.Stops.{has_twice, OverOutput, OverStreams, StopsBundle, StopsReplay, StopsFiles, StopsInventory, StopsOpening, files_stop_line, files_stop_status, misuse_text, stop_line, stop_status}

-- ---- the streams

-- the bytes of the output and of the error stream before a call and after it, where they are known
pub record Streams : Type 0 where
  pub output : Option (List ℕ)
  pub output_now : Option (List ℕ)
  pub errors : Option (List ℕ)
  pub errors_now : Option (List ℕ)

abbrev pub streams : (output output_now errors errors_now : Option (List ℕ)) → Streams
streams output output_now errors errors_now = record { output = output; output_now = output_now; errors = errors; errors_now = errors_now }

-- the text was appended to the output and nothing else; nothing was written to the error stream, and `printed` is true
pub record HasPut (text : List ℕ) (e : Ended) (s : Streams) : Type 0 where
  pub none_owed : e.printed ≡ true
  pub put : Appends s.output s.output_now text
  pub quiet : Keeps s.errors s.errors_now

-- Nothing was appended to the output, except that a failed output may have a prefix of a text that was due. The error
-- stream has this text on the stop, or a prefix of it where the stream did not take the whole text
pub record HasStoppedBy (said : List ℕ) (Due : (text : List ℕ) → Type 0) (stop : FilesStop) (e : Ended) (s : Streams) : Type 0 where
  pub status_is : e.status ≡ files_stop_status stop
  pub nothing : (stop ≡ Other Output → ⊥) → Keeps s.output s.output_now
  pub cut_off : stop ≡ Other Output → (text : List ℕ) × Due text × AppendsPart s.output s.output_now text
  pub line : e.printed ≡ true → Appends s.errors s.errors_now said
  pub part : e.printed ≡ false → AppendsPart s.errors s.errors_now said

-- the same, where the error stream has the one line of the stop
abbrev pub HasStopped : (Due : (text : List ℕ) → Type 0) → FilesStop → Ended → Streams → Type 0
HasStopped Due stop e s = HasStoppedBy (files_stop_line stop) Due stop e s

-- ---- the modes

-- The words name no call: the error stream has the line of a wrong use, followed by the usage of the mode that the
-- first word names, or of all modes; or memory ran out for the words
abbrev pub HasNoCall : Option ModeName → Ended → Streams → Type 0
HasNoCall mode e s =
    HasStoppedBy (misuse_text (usage_of mode)) (λ text. ⊥) (Other Usage) e s
    ⊎ HasStopped (λ text. ⊥) (Other Memory) e s

-- the text of the mode is in the output, with its status; or the program stopped for one of these reasons
abbrev pub IsServed : (Answered : (text : List ℕ) → (status : ℕ) → Type 0) → (Stops : FilesStop → Type 0) → Ended → Streams → Type 0
IsServed Answered Stops e s =
    ((text : List ℕ) × Answered text e.status × HasPut text e s)
    ⊎ ((stop : FilesStop) × Stops stop × HasStopped (λ text. (status : ℕ) × Answered text status) stop e s)

-- the parts of a fixed text are in the output, with status 0; or the output failed
abbrev pub ServesText : (parts : List (List ℕ)) → Ended → Streams → Type 0
ServesText parts e s = IsServed (λ text status. (text ≡ joined parts) × (status ≡ 0)) (λ stop. stop ≡ Other Output) e s

-- a mode over an input whose bytes are known
abbrev pub Serves : Mode → (input : Option (List ℕ)) → Ended → Streams → Type 0
Serves (modes.Bundle options) input e s = IfSome input (λ bytes. IsServed (Answers options bytes) (OverStreams (StopsBundle bytes)) e s)
Serves (modes.Replay limit) input e s = IfSome input (λ bytes. IsServed (λ text status. ReportsJournal limit bytes text × (status ≡ 0)) (OverStreams (StopsReplay limit bytes)) e s)

-- Feeds were followed over a state directory: they have ended, and the status is 0 or 1; or the last line on the error
-- stream, or a prefix of it, says why the run did not begin or has ended, and the status is that of this stop
abbrev pub ServesKept : Ended → (errors_now : Option (List ℕ)) → Type 0
ServesKept e errors_now =
    ((e.status ≤ 1) × (e.printed ≡ true))
    ⊎ ((stop : FilesStop) × (before : Option (List ℕ)) × (e.status ≡ files_stop_status stop)
    × (e.printed ≡ true → Appends before errors_now (files_stop_line stop)) × (e.printed ≡ false → AppendsPart before errors_now (files_stop_line stop)))

-- The told lines of a state directory were printed: the status is 0, and nothing was written to the error stream; or
-- the error stream has one line, or a prefix of it, that says why they were not, and the status is that of this stop.
-- The bytes of the files of the directory are not known
abbrev pub ServesTold : Ended → (errors errors_now : Option (List ℕ)) → Type 0
ServesTold e errors errors_now =
    ((e.status ≡ 0) × (e.printed ≡ true) × Keeps errors errors_now)
    ⊎ ((stop : FilesStop) × (e.status ≡ files_stop_status stop)
    × (e.printed ≡ true → Appends errors errors_now (files_stop_line stop)) × (e.printed ≡ false → AppendsPart errors errors_now (files_stop_line stop)))

-- A state directory is replayed: the text is the report of a history and the lines that all its entries print. The
-- bytes of the files of the directory are not known
abbrev pub IsReplayText : (text : List ℕ) → (status : ℕ) → Type 0
IsReplayText text status = (status ≡ 0) × ((clock : Option ℕ) × ((h : History) × (text ≡ report (inventory_of h) (world_of h) ++ told_of clock h)))

-- the text is in the output; or the program stopped, the error stream has the line of the stop, or a prefix of it, and
-- the output is unchanged or has a prefix of the text
abbrev pub ServesStateReplay : Ended → Streams → Type 0
ServesStateReplay e s =
    ((text : List ℕ) × IsReplayText text e.status × HasPut text e s)
    ⊎ ((stop : FilesStop) × (Keeps s.output s.output_now ⊎ ((text : List ℕ) × IsReplayText text 0 × AppendsPart s.output s.output_now text)) × (e.status ≡ files_stop_status stop)
    × (e.printed ≡ true → Appends s.errors s.errors_now (files_stop_line stop)) × (e.printed ≡ false → AppendsPart s.errors s.errors_now (files_stop_line stop)))

-- a bundle, or a replay of a journal or of a state directory
abbrev pub ServesInput : Option ModeName → (input : Option (List ℕ)) → Ended → Streams → Type 0
ServesInput named input e s = HasNoCall named e s ⊎ (((mode : Mode) × HasRanges mode × Serves mode input e s) ⊎ ServesStateReplay e s)

-- the stops that do not concern the inventory: memory ran out, or the output failed
abbrev pub IsOfSystem : FilesStop → Type 0
IsOfSystem (Other Memory) = Unit {0}
IsOfSystem (Other Output) = Unit {0}
IsOfSystem _ = ⊥

module _ {F : Type 0} where
  -- feeds in files, each with these bytes, where they are known
  abbrev pub ServesFiles : (remaining : F → Option (List ℕ)) → FilesCall → Ended → Streams → Type 0
  ServesFiles remaining call e s = IsServed (AnswersFiles remaining call.options (length call.feeds.items)) (OverOutput (StopsFiles remaining call)) e s

  -- the line with the counts of the inventory in a file, with status 0
  abbrev pub IsCounted : (remaining : F → Option (List ℕ)) → (text : List ℕ) → (status : ℕ) → Type 0
  IsCounted remaining text status = (inv : Configuration) × (counts : InventoryCounts) × IsInFile remaining inv × AreCountsOf inv counts × (text ≡ counts_line counts) × (status ≡ 0)

  -- an inventory is checked: its counts are in the output; or there is no inventory in the file, and the error stream
  -- has the line of the stop that says why, followed by the meaning of the line
  abbrev pub ServesCheck : (remaining : F → Option (List ℕ)) → (path : List ℕ) → Ended → Streams → Type 0
  ServesCheck remaining path e s =
      IsServed (IsCounted remaining) IsOfSystem e s
      ⊎ ((stop : FilesStop) × StopsInventory remaining path stop × HasStoppedBy (stop_in_words stop) (λ text. ⊥) stop e s)

  -- Why feeds are not followed: there are none of them or, with the clock feed, too many; or one is named twice; else
  -- there is no inventory, or a feed is not opened; or memory ran out
  abbrev pub StopsFollow : (remaining : F → Option (List ℕ)) → FollowCall → FilesStop → Type 0
  StopsFollow remaining call (Other Feeds) = IsSenderCount (given_feeds call) → IsSenderCount (all_feeds call) → ⊥
  StopsFollow remaining call (Other FeedTwice) = has_twice (map (λ p. p.now) call.feeds.items) ≡ true
  StopsFollow remaining call s =
      IsSenderCount (given_feeds call) × IsSenderCount (all_feeds call)
      × (StopsInventory remaining call.inventory.now s
      ⊎ ((inv : Configuration) × IsInFile remaining inv × StopsOpening (map (λ p. p.now) call.feeds.items) s))

  -- Feeds were followed under the inventory in a file, which was read to its end. The error stream has the line on the
  -- start, or a prefix of it. Then either the output has the whole text that is due, and the error stream nothing more;
  -- or one more line on the error stream says why the output does not have the whole text
  pub record HasServedFollow (remaining : F → Option (List ℕ)) (call : FollowCall) (e : Ended) (s : Streams) : Type 0 where
    pub inv : Configuration
    pub inventory_is : IsInFile remaining inv
    pub started : Option (List ℕ)
    pub start : AppendsBeginning s.errors started (start_line (given_feeds call) 0 0)
    pub ran : (IsRun call inv s.output s.output_now e.status × (e.printed ≡ true) × Keeps started s.errors_now)
        ⊎ ((stop : Stop) × IsRunCutOff call inv s.output s.output_now stop × (e.status ≡ stop_status stop)
        × (e.printed ≡ true → Appends started s.errors_now (stop_line stop)) × (e.printed ≡ false → AppendsPart started s.errors_now (stop_line stop)))

  -- the mode that follows feeds and keeps nothing: it stopped before the run, or ran as `HasServedFollow` says
  abbrev pub ServesFollow : (remaining : F → Option (List ℕ)) → FollowCall → Ended → Streams → Type 0
  ServesFollow remaining call e s = ((stop : FilesStop) × StopsFollow remaining call stop × HasStopped (λ text. ⊥) stop e s) ⊎ HasServedFollow remaining call e s

  -- the mode that follows feeds, with a state directory where one is named
  abbrev pub ServesCall : {A : Type 0} → (state : Option A) → (remaining : F → Option (List ℕ)) → FollowCall → Ended → Streams → Type 0
  ServesCall None remaining call e s = ServesFollow remaining call e s
  ServesCall (Some path) remaining call e s = ServesKept e s.errors_now

  -- the effect of words, by the mode that the first word names; words that name no mode ask for a bundle
  abbrev pub ServesWords : (remaining : F → Option (List ℕ)) → Option ModeName → (input : Option (List ℕ)) → Ended → Streams → Type 0
  ServesWords remaining (Some name.Files) input e s = HasNoCall (Some name.Files) e s ⊎ ((call : FilesCall) × AreOfWords call.options.run × ServesFiles remaining call e s)
  ServesWords remaining (Some name.Follow) input e s = HasNoCall (Some name.Follow) e s ⊎ ((call : FollowCall) × AreOfWords call.run × ServesCall call.keeping.state remaining call e s)
  ServesWords remaining (Some name.Check) input e s = HasNoCall (Some name.Check) e s ⊎ ((path : List ℕ) × ServesCheck remaining path e s)
  ServesWords remaining (Some name.Told) input e s = HasNoCall (Some name.Told) e s ⊎ ServesTold e s.errors s.errors_now
  ServesWords remaining (Some name.Help) input e s = ServesText (usage_of None) e s
  ServesWords remaining (Some name.Version) input e s = ServesText (VERSION_TEXT.now ∷ []) e s
  ServesWords remaining mode input e s = ServesInput mode input e s

-- the mode `explain`: it explains the line of these words, or without words the lines of an input whose bytes are known
abbrev pub ServesExplain : (words : List (List ℕ)) → (input : Option (List ℕ)) → Ended → Streams → Type 0
ServesExplain words input e s = IfSome (asked_text words input) (λ asked. IsServed (Explains words asked) (OverOutput (StopsExplain words)) e s)

module _ {F : Type 0} where
  -- the effect of all words, whether or not they ask to explain lines
  abbrev pub ServesProgram : (remaining : F → Option (List ℕ)) → (words : List (List ℕ)) → (input : Option (List ℕ)) → Ended → Streams → Type 0
  ServesProgram remaining words input e s =
      MatchOption (explain_words words) (ServesWords remaining (mode_named words) input e s) (λ line. ServesExplain line input e s)
