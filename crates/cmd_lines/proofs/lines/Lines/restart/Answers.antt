-- Why `Lines::restart` keeps its contract.
use Rattle.std.proofs.Common.{[], take, refl, sym, ap}
use Rattle.cmd_lines.specs.Unfinished.{most_held}
use Rattle.cmd_lines.proofs.PassLaws.{last_line_one}
use Rattle.cmd_lines.proofs.lines.Lines.restart.Goals as goal

pub returns-clause-stands : goal.returns-clause-stands
returns-clause-stands c = rw c.clear.ensures (refl, λ phase more. refl, λ is. ap (take most_held) (sym (last_line_one c.definitions_agree.ensures [] tt)))
