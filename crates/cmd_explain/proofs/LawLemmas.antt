-- Each cause is found by its number, and the meanings can be taken away.
use Rattle.std.proofs.Common.{◌≡◌, ℕ, ◌<◌, true, false, List, [], ◌∷◌, ◌++◌, Option, Some, None, refl, ap, ◌∙◌, eq-eqb}
use Rattle.std.specs.Prelude.{is_some, nat_eq}
use Rattle.std.proofs.lemmas.Bool.{lt-ltb}
use Rattle.cmd_types.specs.declared.entry.TheConstants.{MOST_SENDERS}
use Rattle.cmd_lines.specs.declared.fault.LineFault.{LineFault}
use Rattle.cmd_lines.specs.declared.fault.LineFault.TheVariants as fault
use Rattle.cmd_lines.specs.Faults.{fault_number, fault_argument}
use Rattle.cmd_journal.specs.declared.fault.ReadCause.{ReadCause}
use Rattle.cmd_journal.specs.declared.fault.ReadCause.TheVariants as journal
use Rattle.cmd_journal.specs.Faults as of_journal
use Rattle.cmd_run.specs.declared.ending.Ending.{Ending}
use Rattle.cmd_run.specs.declared.ending.Ending.TheVariants as ending
use Rattle.cmd_run.specs.declared.fault.RunCause.{RunCause}
use Rattle.cmd_run.specs.declared.fault.RunCause.TheVariants as run
use Rattle.cmd_run.specs.Causes as of_run
use Rattle.cmd_answer.specs.declared.state_stop.StateWord.{StateWord}
use Rattle.cmd_answer.specs.declared.state_stop.StateWord.TheVariants as word
use Rattle.mon_engine.specs.declared.outcome.Reason.{Reason}
use Rattle.mon_engine.specs.declared.outcome.Reason.TheVariants as reason
use Rattle.mon_engine.specs.declared.withheld.Withheld.{Withheld}
use Rattle.mon_engine.specs.declared.withheld.Withheld.TheVariants as by
use Rattle.mon_engine.specs.Words.{reason_number, withheld_text}
use Rattle.mon_inventory.specs.declared.fault.Cause.{Cause}
use Rattle.mon_inventory.specs.declared.fault.Cause.TheVariants as inventory
use Rattle.mon_inventory.specs.Cause as of_inventory
use Rattle.mon_state.specs.declared.fault.StateCause.{StateCause}
use Rattle.mon_state.specs.declared.fault.StateCause.TheVariants as state
use Rattle.cmd_explain.specs.declared.kinds.LineKind.{LineKind}
use Rattle.cmd_explain.specs.declared.kinds.LineKind.TheVariants as kind
use Rattle.cmd_explain.specs.declared.known.KnownLine.{KnownLine}
use Rattle.mon_state.specs.Causes as of_state
use Rattle.cmd_explain.specs.Codes.{inventory_cause, journal_cause, state_cause, reason_of, cause_of_feed, run_cause, fault_of_argument, line_fault}
use Rattle.cmd_explain.specs.Times.{withheld_of}
use Rattle.cmd_explain.specs.KnownLines.{form_of, kind_of}
use Rattle.cmd_explain.specs.Explained.{known_by_line, meaning_lines, shown_lines, taken_away}
use Rattle.cmd_explain.specs.Laws.{FindsAll}

-- ---- causes by their numbers

inventory_found : (c : Cause) → inventory_cause (of_inventory.cause_number c) ≡ Some c
unfolding inventory_cause
inventory_found inventory.BadForm = refl
inventory_found inventory.BadNumber = refl
inventory_found inventory.BadOption = refl
inventory_found inventory.Duplicate = refl
inventory_found inventory.UnknownHost = refl
inventory_found inventory.UnknownService = refl
inventory_found inventory.UnknownContact = refl
inventory_found inventory.TooMany = refl
inventory_found inventory.Memory = refl

journal_found : (c : ReadCause) → journal_cause (of_journal.cause_number c) ≡ Some c
unfolding journal_cause
journal_found journal.BadEntry = refl
journal_found journal.BadPlace = refl
journal_found journal.BadClock = refl
journal_found journal.Full = refl
journal_found journal.Memory = refl

state_found : (c : StateCause) → state_cause (of_state.cause_number c) ≡ Some c
unfolding state_cause
state_found state.BadLine = refl
state_found state.BadValue = refl
state_found state.NotAsWritten = refl
state_found state.UnknownVersion = refl
state_found state.Memory = refl

reason_found : (r : Reason) → reason_of (reason_number r) ≡ Some r
unfolding reason_of
reason_found reason.UnknownHost = refl
reason_found reason.UnknownService = refl
reason_found reason.UnknownContact = refl
reason_found reason.NoSuchComment = refl
reason_found reason.NoSuchDowntime = refl
reason_found reason.NotAProblem = refl
reason_found reason.BadWindow = refl
reason_found reason.PastWindow = refl
reason_found reason.NoDuration = refl
reason_found reason.NoTrigger = refl
reason_found reason.TriggerOver = refl
reason_found reason.PassiveOff = refl

same : (n : ℕ) → nat_eq n n ≡ true
same n = eq-eqb n n refl

cause_found : (c : RunCause) → cause_of_feed (of_run.cause_number c) (of_run.cause_sender c) ≡ Some c
unfolding cause_of_feed
cause_found run.BadOptions = refl
cause_found run.Memory = refl
cause_found (run.Spawn feed) = rw (same feed)
cause_found run.JournalFull = refl
cause_found run.QueueLost = refl
cause_found (run.SenderStopped feed) = rw (same feed)
cause_found run.Output = refl

run_found : (c : RunCause) → of_run.cause_sender c < MOST_SENDERS → run_cause (of_run.cause_number c) (of_run.cause_sender c) ≡ Some c
unfolding run_cause
run_found c low = rw (lt-ltb (of_run.cause_sender c) MOST_SENDERS low) (cause_found c)

argument_found : (f : LineFault) → fault_of_argument (fault_number f) (fault_argument f) ≡ Some f
unfolding fault_of_argument
argument_found fault.TooLong = refl
argument_found fault.Torn = refl
argument_found fault.NoBracket = refl
argument_found fault.BadTime = refl
argument_found fault.NoSpace = refl
argument_found fault.UnknownCommand = refl
argument_found (fault.Missing n) = rw (same n)
argument_found (fault.EmptyName n) = rw (same n)
argument_found (fault.BadNumber n) = rw (same n)
argument_found fault.Memory = refl

fault_found : (f : LineFault) → fault_argument f < 256 → line_fault (fault_number f) (fault_argument f) ≡ Some f
unfolding line_fault
fault_found f low = rw (lt-ltb (fault_argument f) 256 low) (argument_found f)

-- ---- what withholds a notice, by its word

withheld_found : (w : Option Withheld) → withheld_of (withheld_text w) ≡ Some w
unfolding withheld_of
withheld_found None = refl
withheld_found (Some by.Program) = refl
withheld_found (Some by.Switch) = refl
withheld_found (Some by.Downtime) = refl
withheld_found (Some by.Host) = refl
withheld_found (Some by.Letter) = refl
withheld_found (Some by.Acknowledged) = refl
withheld_found (Some by.Soft) = refl
withheld_found (Some by.NotBefore) = refl
withheld_found (Some by.Interval) = refl
withheld_found (Some by.Delay) = refl
withheld_found (Some by.Settle) = refl
withheld_found (Some by.Nobody) = refl

-- ---- kinds of lines by their forms

state_kind : (w : StateWord) → kind_of (form_of (kind.State w)) ≡ Some (kind.State w)
unfolding kind_of
state_kind word.NotThere = refl
state_kind word.Lock = refl
state_kind word.InUse = refl
state_kind word.Read = refl
state_kind word.Mark = refl
state_kind word.Inventory = refl
state_kind word.Feeds = refl
state_kind word.Told = refl
state_kind word.Full = refl
state_kind word.File = refl
state_kind word.Journal = refl
state_kind word.Sync = refl
state_kind word.Status = refl

ended_kind : (e : Ending) → kind_of (form_of (kind.Ended e)) ≡ Some (kind.Ended e)
unfolding kind_of
ended_kind ending.Whole = refl
ended_kind ending.ReadFailed = refl
ended_kind ending.TooManyReads = refl
ended_kind ending.Memory = refl
ended_kind ending.QueueRefused = refl

feed_kind : (e : Ending) → kind_of (form_of (kind.Feed e)) ≡ Some (kind.Feed e)
unfolding kind_of
feed_kind ending.Whole = refl
feed_kind ending.ReadFailed = refl
feed_kind ending.TooManyReads = refl
feed_kind ending.Memory = refl
feed_kind ending.QueueRefused = refl

kind_found : (k : LineKind) → kind_of (form_of k) ≡ Some k
unfolding kind_of
kind_found kind.Usage = refl
kind_found kind.Input = refl
kind_found kind.Feeds = refl
kind_found kind.FeedTwice = refl
kind_found kind.Memory = refl
kind_found kind.Output = refl
kind_found kind.Inventory = refl
kind_found kind.Journal = refl
kind_found kind.Fault = refl
kind_found (kind.State w) = state_kind w
kind_found kind.StateLine = refl
kind_found kind.StateInventory = refl
kind_found kind.StateJournal = refl
kind_found kind.Following = refl
kind_found kind.Waits = refl
kind_found kind.Replaced = refl
kind_found kind.Anew = refl
kind_found (kind.Ended e) = ended_kind e
kind_found kind.ClockAhead = refl
kind_found kind.NewInventory = refl
kind_found kind.InventoryRefused = refl
kind_found kind.ToldMissing = refl
kind_found kind.Refused = refl
kind_found kind.Rejected = refl
kind_found kind.NoReport = refl
kind_found (kind.Feed e) = feed_kind e

pub finds_all : FindsAll
finds_all = record { inventory = inventory_found; journal = journal_found; state = state_found; reasons = reason_found; runs = run_found; faults = fault_found; withheld = withheld_found; kinds = kind_found }

-- ---- without the meanings

without_one : (known : Option KnownLine) (lines : List (List ℕ)) → taken_away (is_some known) (meaning_lines known ++ lines) ≡ taken_away false lines
without_one None lines = refl
without_one (Some known) lines = refl

pub without_meanings : (lines : List (List ℕ)) → taken_away false (shown_lines lines) ≡ lines
without_meanings [] = refl
without_meanings (line ∷ lines) = ap (λ (ls : List (List ℕ)). line ∷ ls) (without_one (known_by_line line) (shown_lines lines) ∙ without_meanings lines)
