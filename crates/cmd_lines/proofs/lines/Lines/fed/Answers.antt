use Rattle.std.proofs.Common.{ap}
use Rattle.cmd_lines.specs.Reader.{Waiting}
use Rattle.cmd_lines.proofs.lines.Lines.fed.Goals as goal

pub returns : goal.returns
returns c = ap (λ (w : Waiting). w.fed) c.self.view_is
