use Rattle.std.proofs.Common.{inl}
use Rattle.cmd_dispatch.proofs.tests.stored.the_observer_is_told_while_the_feed_waits.Goals as goal

pub follow_stored-run-requires-clause-allowed : goal.follow_stored-run-requires-clause-allowed
follow_stored-run-requires-clause-allowed g c κs = inl (λ left. tt, λ disk monitor. tt)
