use Rattle.std.proofs.Common.{refl, rules}
use Rattle.cmd_lines.proofs.lines.Lines.new.Goals as goal

pub returns-clause-stands : goal.returns-clause-stands
returns-clause-stands c = rw c.new.ensures (refl, λ phase more. refl, λ is. search rules)
