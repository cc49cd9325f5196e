use Rattle.std.proofs.Common.{inl}
use Rattle.cmd_dispatch.proofs.tests.examples.follow_fault.Goals as goal

pub follow-followed-requires-clause-allowed : goal.follow-followed-requires-clause-allowed
follow-followed-requires-clause-allowed g c κs = inl (λ text. tt)
