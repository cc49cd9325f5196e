use Rattle.std.proofs.Common.{inl}
use Rattle.cmd_dispatch.proofs.tests.examples.kept.Goals as goal

pub follow_stored-kept-requires-clause-allowed : goal.follow_stored-kept-requires-clause-allowed
follow_stored-kept-requires-clause-allowed g c κs = inl (λ left. tt, λ disk monitor. tt)
