-- The numbers by which the causes of a fault are reported.
use Rattle.std.specs.Prelude.{ℕ}
use Rattle.cmd_run.specs.declared.fault.RunCause.{RunCause}
use Rattle.cmd_run.specs.declared.fault.RunCause.TheVariants.{BadOptions, Memory, Spawn, JournalFull, QueueLost, SenderStopped, Output}

abbrev pub cause_number : RunCause → ℕ
cause_number BadOptions = 1
cause_number Memory = 2
cause_number (Spawn k) = 3
cause_number JournalFull = 4
cause_number QueueLost = 5
cause_number (SenderStopped k) = 6
cause_number Output = 7

-- the sender that a cause names, or 0
abbrev pub cause_sender : RunCause → ℕ
cause_sender (Spawn k) = k
cause_sender (SenderStopped k) = k
cause_sender _ = 0
