-- The cause is `Output` only where a call has failed.
use Rattle.std.specs.Prelude.{◌≡◌, Option, Some, None, Result, Ok, Err, OnErr, IfErr}
use Rattle.std.proofs.Common.{refl, sym, subst}
use Rattle.cmd_run.specs.declared.fault.RunCause.{RunCause}
use Rattle.cmd_run.specs.declared.fault.RunCause.TheVariants.{BadOptions, Memory, Spawn, JournalFull, QueueLost, SenderStopped, Output}
use Rattle.cmd_dispatch.specs.Logs.{fault_in, IsBlamed}
use Rattle.cmd_dispatch.specs.Runs.{fault_known}
use Rattle.cmd_dispatch.specs.Stores.{WhileWhole}

pub blamed : (F : Type 0) (cause : RunCause) → (cause ≡ Output → F) → IsBlamed F (Some cause)
blamed F BadOptions is = tt
blamed F Memory is = tt
blamed F (Spawn k) is = tt
blamed F JournalFull is = tt
blamed F QueueLost is = tt
blamed F (SenderStopped k) is = tt
blamed F Output is = is refl

-- a call that fails only where it may be blamed
pub blamed_in : {A : Type 0} (F : Type 0) (r : Result A RunCause) → OnErr r F → IsBlamed F (fault_in r)
blamed_in F (Ok x) failed = tt
blamed_in F (Err cause) failed = blamed F cause (λ _. failed)

-- a property that holds while the run has not failed holds after a call whose only fault is the output
pub whole_in : {A P : Type 0} (r : Result A RunCause) → IfErr r (λ c. c ≡ Output) → P → WhileWhole (fault_in r) P
whole_in (Ok x) is p = p
whole_in {P = P} (Err cause) is p = subst (λ (c : RunCause). WhileWhole (Some c) P) (sym is) tt

-- a fault of which the log does not know is not `Output`
pub blamed_known : (F : Type 0) (cause : Option RunCause) → IsBlamed F (fault_known cause) → IsBlamed F cause
blamed_known F None is = tt
blamed_known F (Some BadOptions) is = tt
blamed_known F (Some Memory) is = tt
blamed_known F (Some (Spawn k)) is = tt
blamed_known F (Some JournalFull) is = tt
blamed_known F (Some QueueLost) is = tt
blamed_known F (Some (SenderStopped k)) is = tt
blamed_known F (Some Output) is = is
