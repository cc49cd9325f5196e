use Rattle.std.proofs.Common.{inl}
use Rattle.cmd_recovery.proofs.tests.a_new_directory_has_no_entry.Goals as goal

pub begin_run-requires-clause-allowed : goal.begin_run-requires-clause-allowed
begin_run-requires-clause-allowed g c = inl (λ left. tt)
