use Rattle.std.proofs.Common.{refl}
use Rattle.cmd_lines.specs.Reading.{name_at}
use Rattle.cmd_lines.proofs.fields.Fields.name.Goals as goal

pub returns-then-is_empty : goal.returns-then-is_empty
unfolding name_at
returns-then-is_empty c = rw (c.in_ok-field.ensures, ← c.without_returns-name.ensures.value, ← c.if-is_empty.ensures) refl
