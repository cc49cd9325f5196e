use Rattle.std.proofs.Common.{inl}
use Rattle.cmd_recovery.proofs.tests.started.begin_with.Goals as goal

pub proceed-requires-clause-allowed : goal.proceed-requires-clause-allowed
proceed-requires-clause-allowed c = inl (λ left. tt)

pub start-requires : goal.start-requires
start-requires c = record { allowed = inl (λ left. tt) }
