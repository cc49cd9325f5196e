use Rattle.std.proofs.Common.{inl}
use Rattle.gateway.proofs.keeping.site.find_site.Goals as goal

pub start-requires : goal.start-requires
start-requires g c = record { allowed = inl (λ left. tt) }
