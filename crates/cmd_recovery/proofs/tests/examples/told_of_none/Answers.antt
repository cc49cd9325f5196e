use Rattle.std.proofs.Common.{inl}
use Rattle.cmd_recovery.proofs.tests.examples.told_of_none.Goals as goal

pub start-requires : goal.start-requires
start-requires g c = record { allowed = inl (λ left. tt) }
