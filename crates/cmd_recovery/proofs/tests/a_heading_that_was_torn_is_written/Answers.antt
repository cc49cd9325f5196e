use Rattle.std.proofs.Common.{inl}
use Rattle.cmd_recovery.proofs.tests.a_heading_that_was_torn_is_written.Goals as goal

pub begin_run-requires-clause-allowed : goal.begin_run-requires-clause-allowed
begin_run-requires-clause-allowed g c = inl (λ left. tt)
