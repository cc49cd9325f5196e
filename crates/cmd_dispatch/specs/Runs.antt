-- The promises of a run: the headline over any number of feeds, and what the journal and the reports have after a
-- fault.
use Rattle.std.specs.Prelude.{MatchOption, ◌≡◌, ◌≢◌, ◌<◌, ◌≤◌, ◌⊎◌, ℕ, Bool, true, false, Option, None, Some, Result, Ok, Err, List, [], ◌∷◌, ◌++◌, length, map, take, slice_index_or}
use Rattle.std.specs.List.{sum_by}
use Rattle.cmd_types.specs.declared.entry.Entry.{Entry}
use Rattle.cmd_types.specs.Entries.{entries_of}
use Rattle.cmd_lines.specs.declared.fault.LineFault.{LineFault}
use Rattle.cmd_lines.specs.Items.{commands, refusals, items, items_so_far, items_cut}
use Rattle.cmd_queue.specs.declared.taken.Taken.TheVariants.{Command, Closed}
use Rattle.cmd_queue.specs.Lists.{entries}
use Rattle.cmd_queue.specs.Lists as lists
use Rattle.cmd_queue.specs.Sides.{Settlement}
use Rattle.cmd_journal.specs.Journals.{of_sender}
use Rattle.mon_engine.specs.Held.{Held}
use Rattle.cmd_run.specs.declared.ending.Ending.TheVariants as ending
use Rattle.cmd_run.specs.declared.ending.SenderReport.{SenderReport}
use Rattle.cmd_run.specs.declared.fault.RunCause.{RunCause}
use Rattle.cmd_run.specs.declared.fault.RunCause.TheVariants.{BadOptions, Spawn, SenderStopped, Memory, JournalFull, QueueLost, Output}
use Rattle.cmd_run.specs.declared.fault.RunFault.{RunFault}
use Rattle.cmd_run.specs.Endings.{is_complete}
use Rattle.cmd_dispatch.specs.declared.report.RunReport.{RunReport}
use Rattle.cmd_dispatch.specs.declared.running.FailedRun.{FailedRun}
use Rattle.cmd_dispatch.specs.declared.unkept.UnkeptReport.{UnkeptReport}
use Rattle.cmd_dispatch.specs.declared.unkept.UnkeptFault.{UnkeptFault}
use Rattle.cmd_dispatch.specs.Delivered.{items_by, BeginsWith, MayBreakOff, IsAll, IsDelivered, IsEnded}
use Rattle.cmd_run.specs.Senders.{AreOf}
use Rattle.cmd_dispatch.specs.RunCalls.{Source, RunCall}
use Rattle.cmd_dispatch.specs.Dispatches.{AreTakenOf, Means}

-- ---- the outcome of a run

-- the entries in the order in which they were applied, the monitor after them, the report of each sender, and the
-- settled queue
pub record Outcome : Type 0 where
  pub journal : List Entry
  pub monitor : Held
  pub reports : List SenderReport
  pub settled : Settlement

abbrev pub outcome : RunReport → Outcome
outcome report = record { journal = report.journal.entries; monitor = report.monitor; reports = report.senders.items; settled = report.settled }

-- where no journal is kept, the list of the taken entries is the journal
abbrev pub taken_outcome : Held → List SenderReport → Settlement → Outcome
taken_outcome monitor reports settled = record { journal = entries settled.list; monitor = monitor; reports = reports; settled = settled }

abbrev pub unkept_outcome : UnkeptReport → Outcome
unkept_outcome report = taken_outcome report.monitor report.senders.items report.settled

-- ---- a run that has a report

-- The sender k, which read this feed: the journal restricted to k is exactly the list of commands that its text spells,
-- in order and each once, and its report is of that text
pub record IsReportedBy (source : Source) (k : ℕ) (journal : List Entry) (report : SenderReport) (are_refused : List (ℕ × LineFault) → Type 0) : Type 0 where
  -- the bytes that its reader delivered
  pub text : List ℕ
  pub delivered : IsDelivered source.remaining source.piece source.reads text
  pub ended : IsEnded source.remaining source.fails source.fills source.piece source.reads text report.ending
  pub journaled : of_sender k journal ≡ entries_of k (commands (items_by report.ending text))
  pub accepted : report.accepted ≡ length (commands (items_by report.ending text))
  pub refused : are_refused (refusals (items_by report.ending text))

-- the refused lines are those that the report lists
abbrev pub are_listed : SenderReport → List (ℕ × LineFault) → Type 0
are_listed report refused = report.refused.items ≡ refused

abbrev pub IsReported : Source → (k : ℕ) → (journal : List Entry) → (report : SenderReport) → Type 0
IsReported source k journal report = IsReportedBy source k journal report (are_listed report)

-- The messages taken of each feed are its entries in the journal and then its close mark, with the number of commands
-- that it reports; every message that was taken is of a feed
pub record HaveClosedWith (readers : ℕ) (journal : List Entry) (reports : List SenderReport) (settled : Settlement) : Type 0 where
  pub of_each : (k : ℕ) (r : SenderReport) → k < readers
      → lists.of_sender k settled.list ≡ map Command (of_sender k journal) ++ Closed k (slice_index_or reports k r).accepted ∷ []
  pub of_no_other : AreTakenOf readers settled.list

-- each feed is reported by the report at its index, as `IsReportedBy` says
abbrev pub AreReported : List Source → (journal : List Entry) → List SenderReport → Type 0
AreReported sources journal reports = (k : ℕ) (s : Source) (r : SenderReport) → k < length sources → IsReported (slice_index_or sources k s) k journal (slice_index_or reports k r)

-- a run that has a report: its arguments and its outcome
pub record HasRun (call : RunCall) (run : Outcome) : Type 0 where
  -- the taken entries, without the close marks, are the journal
  pub settled_is : entries run.settled.list ≡ run.journal
  pub settled_of : run.settled.senders ≡ length call.sources
  pub closed : HaveClosedWith (length call.sources) run.journal run.reports run.settled
  pub within : length run.journal ≤ call.limit
  pub alone : length call.sources ≡ 1 → of_sender 0 run.journal ≡ run.journal
  pub known : AreOf (length call.sources) run.journal
  pub one_each : length run.reports ≡ length call.sources
  pub reported_are : AreReported call.sources run.journal run.reports
  pub means : Means call.inventory run.journal run.monitor

-- ---- the end of a run

-- The first sender that stopped, because memory ran out; the queue refused no sender
pub record IsFirstStopped (k : ℕ) (reports : List SenderReport) : Type 0 where
  pub known : k < length reports
  pub stopped : (r : SenderReport) → (slice_index_or reports k r).ending ≡ ending.Memory
  pub others : (i : ℕ) (r : SenderReport) → i < k → is_complete (slice_index_or reports i r).ending ≡ true
  pub none_refused : (i : ℕ) (r : SenderReport) → i < length reports → (slice_index_or reports i r).ending ≢ ending.QueueRefused

-- ---- a run that failed

-- the facts on the journal and the reports that each cause implies
abbrev pub IsOfCause : (readers limit : ℕ) → RunCause → List Entry → List SenderReport → Type 0
IsOfCause readers limit BadOptions journal reports = (journal ≡ []) × (reports ≡ [])
IsOfCause readers limit (Spawn k) journal reports = (journal ≡ []) × (length reports ≡ k) × (k < readers)
IsOfCause readers limit (SenderStopped k) journal reports = (length reports ≡ readers) × IsFirstStopped k reports
IsOfCause readers limit JournalFull journal reports = (length reports ≡ readers) × (length journal ≡ limit) × (limit < sum_by (λ r. r.accepted) reports)
IsOfCause readers limit QueueLost journal reports = length reports ≡ readers
IsOfCause readers limit Output journal reports = ⊥
IsOfCause readers limit Memory journal reports = (length reports ≡ readers) ⊎ ((journal ≡ []) × (reports ≡ []))

-- the limit of the journal of a fault: that of the run, but 1 where nothing was started
abbrev pub IsLimitAfter : (limit : ℕ) → RunCause → List SenderReport → (found : ℕ) → Type 0
IsLimitAfter limit BadOptions reports found = found ≡ 1
IsLimitAfter limit Memory reports found = (found ≡ limit) ⊎ ((reports ≡ []) × (found ≡ 1))
IsLimitAfter limit _ reports found = found ≡ limit

-- The sender k after a fault: as many commands as it reports, a prefix of those that its text spells, were put into the
-- queue, and a prefix of these is in the journal; all of these where the only fault is a sender that stopped
pub record IsBegunBy (source : Source) (cause : RunCause) (k : ℕ) (journal : List Entry) (report : SenderReport) (are_refused : List (ℕ × LineFault) → Type 0) : Type 0 where
  -- the bytes that its reader delivered
  pub text : List ℕ
  pub delivered : IsDelivered source.remaining source.piece source.reads text
  pub accepted : report.accepted ≤ length (commands (items text))
  -- the command of an unfinished last line was taken only where the text is all bytes of the reader
  pub unfinished : IsAll source.remaining text ⊎ (report.accepted ≤ length (commands (items_so_far text)))
  pub journaled : BeginsWith (entries_of k (take report.accepted (commands (items text)))) (of_sender k journal)
  pub all_journaled : (j : ℕ) → cause ≡ SenderStopped j → of_sender k journal ≡ entries_of k (take report.accepted (commands (items text)))
  -- a prefix of the refused lines was reported; a line that is refused because the text broke off, only where the text
  -- may have broken off
  pub refused : (first : List (ℕ × LineFault)) × are_refused first × (BeginsWith (refusals (items text)) first ⊎ (MayBreakOff source.fails source.reads text × BeginsWith (refusals (items_cut text)) first))
  -- a complete ending has the same meaning as in a run that has a report
  pub ended : is_complete report.ending ≡ true → IsEnded source.remaining source.fails source.fills source.piece source.reads text report.ending
  pub all_accepted : is_complete report.ending ≡ true → report.accepted ≡ length (commands (items_by report.ending text))
  pub all_refused : is_complete report.ending ≡ true → are_refused (refusals (items_by report.ending text))

abbrev pub IsBegun : Source → (cause : RunCause) → (k : ℕ) → (journal : List Entry) → (report : SenderReport) → Type 0
IsBegun source cause k journal report = IsBegunBy source cause k journal report (are_listed report)

-- `IsBegunBy` holds for each sender that was started
abbrev pub AreBegun : List Source → RunCause → (journal : List Entry) → List SenderReport → Type 0
AreBegun sources cause journal reports = (k : ℕ) (s : Source) (r : SenderReport) → k < length reports → IsBegun (slice_index_or sources k s) cause k journal (slice_index_or reports k r)

-- a run that failed: its options and feeds, its cause, and its journal and reports at that time
pub record HasFailed (call : RunCall) (cause : RunCause) (journal : List Entry) (reports : List SenderReport) : Type 0 where
  pub few : length reports ≤ length call.sources
  -- each entry of the journal is of a sender that was started
  pub known : AreOf (length reports) journal
  pub of_cause : IsOfCause (length call.sources) call.limit cause journal reports
  pub begun : AreBegun call.sources cause journal reports
  pub within : length journal ≤ call.limit

-- ---- a run, whatever its log

-- the facts on the reports and on the entries passed to the log that each cause implies
abbrev pub IsEndedBy : (readers : ℕ) → RunCause → (logged : List Entry) → List SenderReport → Type 0
IsEndedBy readers BadOptions logged reports = ⊥
IsEndedBy readers (Spawn k) logged reports = (logged ≡ []) × (length reports ≡ k) × (k < readers)
IsEndedBy readers (SenderStopped k) logged reports = (length reports ≡ readers) × IsFirstStopped k reports
IsEndedBy readers cause logged reports = (length reports ≡ readers) × (length logged ≤ sum_by (λ r. r.accepted) reports)

-- the close mark of each of `readers` senders was taken
abbrev pub HaveAllClosed : (readers : ℕ) → Settlement → Type 0
HaveAllClosed readers settled = (k : ℕ) → k < readers → lists.is_closed k settled.list ≡ true

-- The messages taken by a run that failed. The journal is a prefix of the taken entries. It is all of them where the
-- queue was lost, before all marks were taken, and where the only fault is a sender that stopped; then the mark of each
-- sender was taken too. Of a sender whose mark was taken, as many commands were taken as it reports
pub record IsPartSettled (readers : ℕ) (cause : RunCause) (journal : List Entry) (reports : List SenderReport) (settled : Settlement) : Type 0 where
  pub of_queue : settled.senders ≡ readers
  pub journaled : BeginsWith (entries settled.list) journal
  pub all_journaled : (j : ℕ) → cause ≡ SenderStopped j → entries settled.list ≡ journal
  pub lost_journaled : cause ≡ QueueLost → entries settled.list ≡ journal
  pub all_closed : (j : ℕ) → cause ≡ SenderStopped j → HaveAllClosed readers settled
  pub counted : (k : ℕ) (r : SenderReport) → k < length reports → lists.is_closed k settled.list ≡ true → length (of_sender k (entries settled.list)) ≡ (slice_index_or reports k r).accepted
  pub still_open : cause ≡ QueueLost → HaveAllClosed readers settled → ⊥

-- a run of these feeds that came to its end: the taken messages
pub record HasFed (sources : List Source) (reports : List SenderReport) (refused : ℕ → List (ℕ × LineFault) → Type 0) (settled : Settlement) : Type 0 where
  pub settled_of : settled.senders ≡ length sources
  pub closed : HaveClosedWith (length sources) (entries settled.list) reports settled
  pub alone : length sources ≡ 1 → of_sender 0 (entries settled.list) ≡ entries settled.list
  pub known : AreOf (length sources) (entries settled.list)
  pub one_each : length reports ≡ length sources
  pub reported_are : (k : ℕ) (s : Source) (r : SenderReport) → k < length sources → IsReportedBy (slice_index_or sources k s) k (entries settled.list) (slice_index_or reports k r) (refused k)

-- a run of these feeds that failed: the taken messages, of which these entries were passed to the log
pub record HasPartFed (sources : List Source) (cause : RunCause) (logged : List Entry) (reports : List SenderReport) (refused : ℕ → List (ℕ × LineFault) → Type 0) (settled : Settlement) : Type 0 where
  pub few : length reports ≤ length sources
  pub known : AreOf (length reports) logged
  pub ended : IsEndedBy (length sources) cause logged reports
  pub begun : (k : ℕ) (s : Source) (r : SenderReport) → k < length reports → IsBegunBy (slice_index_or sources k s) cause k logged (slice_index_or reports k r) (refused k)
  pub taken : IsPartSettled (length sources) cause logged reports settled

-- ---- of private contracts alone

-- the report of a run, or its fault alone
abbrev pub reported : Result RunReport FailedRun → Result RunReport RunFault
reported (Ok report) = Ok report
reported (Err failed) = Err failed.fault

-- the fault of which the log knows, by the cause for which the run has no report
abbrev pub fault_known : Option RunCause → Option RunCause
fault_known None = None
fault_known (Some (Spawn k)) = None
fault_known (Some (SenderStopped k)) = None
fault_known (Some cause) = Some cause

-- a run of these feeds that came to its end or failed, and the contents of its log
pub record HasEnded (sources : List Source) (holds : Option RunCause → List Entry → Type 0) (cause : Option RunCause) (reports : List SenderReport) (refused : ℕ → List (ℕ × LineFault) → Type 0) (settled : Settlement) : Type 0 where
  pub logged : List Entry
  pub held : holds (fault_known cause) logged
  pub ran : MatchOption cause ((logged ≡ entries settled.list) × HasFed sources reports refused settled) (λ c. HasPartFed sources c logged reports refused settled)

-- `IsPartSettled` where a queue was settled; else nothing is journaled or reported
abbrev pub IsSettledAs : (readers : ℕ) → RunCause → (journal : List Entry) → List SenderReport → Option Settlement → Type 0
IsSettledAs readers cause journal reports None = (journal ≡ []) × (reports ≡ [])
IsSettledAs readers cause journal reports (Some settled) = IsPartSettled readers cause journal reports settled

-- a run that came to its end has this report; the fault of a run that failed has the parts of this report and the cause
abbrev pub IsMadeOf : (cause : Option RunCause) → RunReport → Result RunReport FailedRun → Type 0
IsMadeOf None report run = run ≡ Ok report
IsMadeOf (Some c) report run = run ≡ Err (record { fault = record { cause = c; journal = report.journal; senders = report.senders }; settled = Some report.settled })

-- the ending of each sender is complete
abbrev pub AreComplete : List SenderReport → Type 0
AreComplete reports = (i : ℕ) (r : SenderReport) → i < length reports → is_complete (slice_index_or reports i r).ending ≡ true

-- the sender with the smallest number whose ending is not complete
pub record IsFirstIncomplete (k : ℕ) (reports : List SenderReport) : Type 0 where
  pub known : k < length reports
  pub stopped : (r : SenderReport) → is_complete (slice_index_or reports k r).ending ≡ false
  pub others : (i : ℕ) (r : SenderReport) → i < k → is_complete (slice_index_or reports i r).ending ≡ true

-- where not all threads were started, the fault is `Spawn` with the number of the first that was not
abbrev pub IsSpawned : (all : Bool) → (count : ℕ) → Option RunCause → Type 0
IsSpawned true count fault = fault ≡ None
IsSpawned false count fault = fault ≡ Some (Spawn count)

-- why a run has no report: its fault, or else the first sender that stopped
abbrev pub IsCause : (fault : Option RunCause) → List SenderReport → Option RunCause → Type 0
IsCause (Some cause) reports found = found ≡ Some cause
IsCause None reports None = AreComplete reports
IsCause None reports (Some (SenderStopped k)) = IsFirstIncomplete k reports
IsCause None reports (Some _) = ⊥

-- the result of a run that keeps no entry, by its cause: the report, or the cause with the senders' reports
abbrev pub IsUnkept : (cause : Option RunCause) → UnkeptReport → Result UnkeptReport UnkeptFault → Type 0
IsUnkept None report run = run ≡ Ok report
IsUnkept (Some c) report run = run ≡ Err (record { cause = c; senders = report.senders })
