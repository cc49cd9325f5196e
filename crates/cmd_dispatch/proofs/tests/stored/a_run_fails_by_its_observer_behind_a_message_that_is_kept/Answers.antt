use Rattle.std.proofs.Common.{inl}
use Rattle.cmd_dispatch.proofs.tests.stored.a_run_fails_by_its_observer_behind_a_message_that_is_kept.Goals as goal

pub follow_stored-run-requires-clause-allowed : goal.follow_stored-run-requires-clause-allowed
follow_stored-run-requires-clause-allowed g c κs = inl (λ left. tt, λ disk monitor. tt)
