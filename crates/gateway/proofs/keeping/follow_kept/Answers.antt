use Rattle.std.proofs.Common.{inl}
use Rattle.gateway.proofs.keeping.follow_kept.Goals as goal

pub proceed-requires-clause-allowed : goal.proceed-requires-clause-allowed
proceed-requires-clause-allowed g c = inl (λ left. tt)
