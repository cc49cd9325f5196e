use Rattle.std.proofs.Common.{inl}
use Rattle.cmd_dispatch.proofs.tests.stored.kept_by.Goals as goal

pub follow_stored-requires-clause-allowed : goal.follow_stored-requires-clause-allowed
follow_stored-requires-clause-allowed g c κs within = inl (c.requires, λ disk monitor. tt)
