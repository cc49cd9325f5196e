use Rattle.std.proofs.Common.{ap}
use Rattle.cmd_types.specs.Spelling.{Timed}
use Rattle.cmd_types.proofs.stamped.Stamped.command.Goals as goal

pub returns-clause-value : goal.returns-clause-value
returns-clause-value c = ap (λ (t : Timed). t.command) c.self.view_is
