use Rattle.std.proofs.Common.{inl}
use Rattle.cmd_recovery.proofs.tests.started.fault_of.Goals as goal

pub start-requires : goal.start-requires
start-requires c = record { allowed = inl (λ left. tt) }
