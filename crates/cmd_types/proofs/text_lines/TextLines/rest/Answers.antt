use Rattle.cmd_types.proofs.text_lines.TextLines.rest.Goals as goal

pub returns : goal.returns
returns c = cc
