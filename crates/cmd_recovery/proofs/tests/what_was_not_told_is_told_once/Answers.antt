use Rattle.std.proofs.Common.{inl}
use Rattle.cmd_recovery.proofs.tests.what_was_not_told_is_told_once.Goals as goal

pub begin_run-requires-clause-allowed : goal.begin_run-requires-clause-allowed
begin_run-requires-clause-allowed g c = inl (λ left. tt)
