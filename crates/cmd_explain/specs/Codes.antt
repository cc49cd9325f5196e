-- The cause, fault or reason that has a number.
use Rattle.std.specs.Prelude.{ℕ, ◌==◌, ◌&&◌, nat_lt, if◌then◌else◌, [], ◌∷◌, Option, None}
use Rattle.std.specs.List.{find}
use Rattle.mon_inventory.specs.declared.fault.Cause.{Cause}
use Rattle.mon_inventory.specs.Cause as of_inventory
use Rattle.cmd_journal.specs.declared.fault.ReadCause.{ReadCause}
use Rattle.cmd_journal.specs.Faults as of_journal
use Rattle.mon_state.specs.declared.fault.StateCause.{StateCause}
use Rattle.mon_state.specs.Causes as of_state
use Rattle.mon_engine.specs.declared.outcome.Reason.{Reason}
use Rattle.mon_engine.specs.Words.{reason_number}
use Rattle.cmd_run.specs.declared.fault.RunCause.{RunCause}
use Rattle.cmd_run.specs.declared.fault.RunCause.TheVariants as run
use Rattle.cmd_run.specs.Causes as of_run
use Rattle.cmd_lines.specs.declared.fault.LineFault.{LineFault}
use Rattle.cmd_lines.specs.declared.fault.LineFault.TheVariants as fault
use Rattle.cmd_lines.specs.Faults.{fault_number, fault_argument}
use Rattle.cmd_types.specs.declared.entry.TheConstants.{MOST_SENDERS}
use Rattle.cmd_explain.specs.declared.codes.TheConstants.{INVENTORY_CAUSES, JOURNAL_CAUSES, STATE_CAUSES, REASONS}

-- the cause of a fault in a line of an inventory that has this number
unfoldable pub inventory_cause : (number : ℕ) → Option Cause
inventory_cause number = find (λ c. of_inventory.cause_number c == number) INVENTORY_CAUSES

-- the cause of a fault in a line of a journal that has this number
unfoldable pub journal_cause : (number : ℕ) → Option ReadCause
journal_cause number = find (λ c. of_journal.cause_number c == number) JOURNAL_CAUSES

-- the cause of a fault in a line of the file `state` that has this number
unfoldable pub state_cause : (number : ℕ) → Option StateCause
state_cause number = find (λ c. of_state.cause_number c == number) STATE_CAUSES

-- the reason for a rejection that has this number
unfoldable pub reason_of : (number : ℕ) → Option Reason
reason_of number = find (λ r. reason_number r == number) REASONS

-- the cause of a failed run with this number and this feed; the feed is 0 for a cause without a feed
unfoldable pub cause_of_feed : (number feed : ℕ) → Option RunCause
cause_of_feed number feed =
    find (λ c. (of_run.cause_number c == number) && (of_run.cause_sender c == feed))
    (run.BadOptions ∷ run.Memory ∷ run.Spawn feed ∷ run.JournalFull ∷ run.QueueLost ∷ run.SenderStopped feed ∷ run.Output ∷ [])

-- the same, where a run may have a feed of this number
unfoldable pub run_cause : (number feed : ℕ) → Option RunCause
run_cause number feed = if nat_lt feed MOST_SENDERS then cause_of_feed number feed else None

-- the fault of a refused line with this number and this argument; the argument is 0 for a fault without an argument
unfoldable pub fault_of_argument : (number argument : ℕ) → Option LineFault
fault_of_argument number argument =
    find (λ f. (fault_number f == number) && (fault_argument f == argument))
    (fault.TooLong ∷ fault.Torn ∷ fault.NoBracket ∷ fault.BadTime ∷ fault.NoSpace ∷ fault.UnknownCommand
    ∷ fault.Missing argument ∷ fault.EmptyName argument ∷ fault.BadNumber argument ∷ fault.Memory ∷ [])

-- the same, where the number of the argument fits a byte
unfoldable pub line_fault : (number argument : ℕ) → Option LineFault
line_fault number argument = if nat_lt argument 256 then fault_of_argument number argument else None
