use Rattle.std.proofs.Common.{Bool, if◌then◌else◌, ap, sym, ◌∙◌}
use Rattle.gateway.proofs.CleanLemmas.{whole_and_clean}
use Rattle.gateway.proofs.ends.status_of.Goals as goal

pub returns-then-are_clean-clause-status : goal.returns-then-are_clean-clause-status
returns-then-are_clean-clause-status g c =
    ap (λ (b : Bool). if b then 0 else 1) (sym c.if-are_clean.true ∙ c.are_clean.ensures ∙ whole_and_clean (λ f. f.report) (λ f. f.attendant.is_clean) c.args.feeds.now)

pub returns-else-are_clean-clause-status : goal.returns-else-are_clean-clause-status
returns-else-are_clean-clause-status g c =
    ap (λ (b : Bool). if b then 0 else 1) (sym c.if-are_clean.false ∙ c.are_clean.ensures ∙ whole_and_clean (λ f. f.report) (λ f. f.attendant.is_clean) c.args.feeds.now)
