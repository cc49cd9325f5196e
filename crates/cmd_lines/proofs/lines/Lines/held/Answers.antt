use Rattle.std.proofs.Common.{ap, ◌∙◌}
use Rattle.cmd_lines.specs.Reader.{Waiting}
use Rattle.cmd_lines.proofs.lines.Lines.held.Goals as goal

pub returns : goal.returns
returns c = λ f g s. c.held.ensures ∙ ap (λ (w : Waiting). w.held) c.self.view_is ∙ s.2 c.requires
