use Rattle.std.proofs.Common.{inl}
use Rattle.cmd_recovery.proofs.tests.examples.started.Goals as goal

pub proceed-requires-clause-allowed : goal.proceed-requires-clause-allowed
proceed-requires-clause-allowed g c = inl (λ left. tt)

pub start-requires : goal.start-requires
start-requires g c = record { allowed = inl (λ left. tt) }

pub start-requires-2 : goal.start-requires-2
start-requires-2 g c = record { allowed = inl (λ left. tt) }
