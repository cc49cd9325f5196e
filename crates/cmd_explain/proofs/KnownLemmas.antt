-- A line is known by its form and its numbers, none of which is greater than a command may have.
use Rattle.std.proofs.Common.{◌≡◌, ℕ, ◌≤◌, true, List, [], ◌∷◌, Option, None, refl, arith}
use Rattle.std.proofs.lemmas.Bool.{le-leb}
use Rattle.cmd_types.specs.declared.limits.TheConstants.{GREATEST_NUMBER}
use Rattle.cmd_lines.specs.declared.fault.LineFault.{LineFault}
use Rattle.cmd_lines.specs.declared.fault.LineFault.TheVariants as fault
use Rattle.cmd_lines.specs.Faults.{fault_number}
use Rattle.cmd_journal.specs.declared.fault.ReadCause.{ReadCause}
use Rattle.cmd_journal.specs.declared.fault.ReadCause.TheVariants as journal
use Rattle.cmd_journal.specs.Faults as of_journal
use Rattle.cmd_run.specs.declared.fault.RunCause.{RunCause}
use Rattle.cmd_run.specs.declared.fault.RunCause.TheVariants as run
use Rattle.cmd_run.specs.Causes as of_run
use Rattle.mon_engine.specs.declared.outcome.Reason.{Reason}
use Rattle.mon_engine.specs.declared.outcome.Reason.TheVariants as reason
use Rattle.mon_engine.specs.Words.{reason_number}
use Rattle.mon_inventory.specs.declared.fault.Cause.{Cause}
use Rattle.mon_inventory.specs.declared.fault.Cause.TheVariants as inventory
use Rattle.mon_inventory.specs.Cause as of_inventory
use Rattle.mon_state.specs.declared.fault.StateCause.{StateCause}
use Rattle.mon_state.specs.declared.fault.StateCause.TheVariants as state
use Rattle.mon_state.specs.Causes as of_state
use Rattle.cmd_explain.specs.declared.kinds.LineKind.{LineKind}
use Rattle.cmd_explain.specs.declared.known.KnownLine.{KnownLine}
use Rattle.cmd_explain.specs.Parts.{form, numbers, are_small}
use Rattle.cmd_explain.specs.KnownLines.{form_of, line_of}
use Rattle.cmd_explain.specs.Explained.{line_by_path, line_by_times, known_line}
use Rattle.cmd_explain.proofs.LawLemmas.{finds_all}

-- a line of a kind, with these numbers
pub known_by : (line : List ℕ) (k : LineKind) (ns : List ℕ) (known : Option KnownLine) → line_by_path line ≡ None → line_by_times line ≡ None → form line ≡ form_of k → numbers line ≡ ns → are_small ns ≡ true → line_of k ns ≡ known → known_line line ≡ known
unfolding known_line
known_by line k ns known other timeless form_is numbers_are small said = rw (other, timeless, numbers_are, small, form_is, finds_all.kinds k) said

-- ---- numbers that are small

pub inventory_small : (c : Cause) → of_inventory.cause_number c ≤ GREATEST_NUMBER
inventory_small inventory.BadForm = omega arith
inventory_small inventory.BadNumber = omega arith
inventory_small inventory.BadOption = omega arith
inventory_small inventory.Duplicate = omega arith
inventory_small inventory.UnknownHost = omega arith
inventory_small inventory.UnknownService = omega arith
inventory_small inventory.UnknownContact = omega arith
inventory_small inventory.TooMany = omega arith
inventory_small inventory.Memory = omega arith

pub journal_small : (c : ReadCause) → of_journal.cause_number c ≤ GREATEST_NUMBER
journal_small journal.BadEntry = omega arith
journal_small journal.BadPlace = omega arith
journal_small journal.BadClock = omega arith
journal_small journal.Full = omega arith
journal_small journal.Memory = omega arith

pub state_small : (c : StateCause) → of_state.cause_number c ≤ GREATEST_NUMBER
state_small state.BadLine = omega arith
state_small state.BadValue = omega arith
state_small state.NotAsWritten = omega arith
state_small state.UnknownVersion = omega arith
state_small state.Memory = omega arith

pub run_small : (c : RunCause) → of_run.cause_number c ≤ GREATEST_NUMBER
run_small run.BadOptions = omega arith
run_small run.Memory = omega arith
run_small (run.Spawn k) = omega arith
run_small run.JournalFull = omega arith
run_small run.QueueLost = omega arith
run_small (run.SenderStopped k) = omega arith
run_small run.Output = omega arith

pub fault_small : (f : LineFault) → fault_number f ≤ GREATEST_NUMBER
fault_small fault.TooLong = omega arith
fault_small fault.Torn = omega arith
fault_small fault.NoBracket = omega arith
fault_small fault.BadTime = omega arith
fault_small fault.NoSpace = omega arith
fault_small fault.UnknownCommand = omega arith
fault_small (fault.Missing n) = omega arith
fault_small (fault.EmptyName n) = omega arith
fault_small (fault.BadNumber n) = omega arith
fault_small fault.Memory = omega arith

pub reason_small : (r : Reason) → reason_number r ≤ GREATEST_NUMBER
reason_small reason.UnknownHost = omega arith
reason_small reason.UnknownService = omega arith
reason_small reason.UnknownContact = omega arith
reason_small reason.NoSuchComment = omega arith
reason_small reason.NoSuchDowntime = omega arith
reason_small reason.NotAProblem = omega arith
reason_small reason.BadWindow = omega arith
reason_small reason.PastWindow = omega arith
reason_small reason.NoDuration = omega arith
reason_small reason.NoTrigger = omega arith
reason_small reason.TriggerOver = omega arith
reason_small reason.PassiveOff = omega arith

pub small_one : (a : ℕ) → a ≤ GREATEST_NUMBER → are_small (a ∷ []) ≡ true
small_one a h = rw (le-leb a GREATEST_NUMBER h) refl

pub small_two : (a b : ℕ) → a ≤ GREATEST_NUMBER → b ≤ GREATEST_NUMBER → are_small (a ∷ b ∷ []) ≡ true
small_two a b h k = rw (le-leb a GREATEST_NUMBER h, le-leb b GREATEST_NUMBER k) refl

pub small_three : (a b c : ℕ) → a ≤ GREATEST_NUMBER → b ≤ GREATEST_NUMBER → c ≤ GREATEST_NUMBER → are_small (a ∷ b ∷ c ∷ []) ≡ true
small_three a b c h k l = rw (le-leb a GREATEST_NUMBER h) (small_two b c k l)

pub small_four : (a b c d : ℕ) → a ≤ GREATEST_NUMBER → b ≤ GREATEST_NUMBER → c ≤ GREATEST_NUMBER → d ≤ GREATEST_NUMBER → are_small (a ∷ b ∷ c ∷ d ∷ []) ≡ true
small_four a b c d h k l m = rw (le-leb a GREATEST_NUMBER h) (small_three b c d k l m)
