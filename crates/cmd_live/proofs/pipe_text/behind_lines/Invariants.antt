use Rattle.std.proofs.Common.{◌≡◌}
use Rattle.cmd_live.specs.PipeTexts.{behind_lines}
use Rattle.cmd_live.proofs.pipe_text.behind_lines.Given as goal

abbrev pub invariant-lines : goal.invariant-lines
invariant-lines l = l.rest ≡ behind_lines l.counter l.fn.text
