use Rattle.mon_engine.proofs.FigureLemmas.{nothing_counted}
use Rattle.mon_engine.proofs.laws.nothing_is_counted_at_first.Goals as goal

pub returns : goal.returns
returns c = nothing_counted
