use Rattle.std.proofs.Common.{Option, List, [], ap, ℕ}
use Rattle.std.specs.Option.{unwrap_or}
use Rattle.cmd_answer.proofs.dividing.behind.Goals as goal

pub returns-in-Some : goal.returns-in-Some
returns-in-Some c = ap (λ (o : Option (List ℕ)). unwrap_or o []) c.in-Some.ensures

pub returns-in-None : goal.returns-in-None
returns-in-None c = ap (λ (o : Option (List ℕ)). unwrap_or o []) c.in-None.ensures
