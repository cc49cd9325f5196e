use Rattle.std.proofs.Common.{refl}
use Rattle.cmd_lines.specs.Reading.{rest_at}
use Rattle.cmd_lines.proofs.fields.Fields.rest.Goals as goal

pub returns : goal.returns
unfolding rest_at
returns c = rw c.in_ok-text.ensures refl
