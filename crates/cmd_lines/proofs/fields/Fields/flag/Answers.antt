use Rattle.std.proofs.Common.{refl}
use Rattle.cmd_lines.specs.Reading.{flag_at}
use Rattle.cmd_lines.proofs.fields.Fields.flag.Goals as goal

pub returns : goal.returns
unfolding flag_at
returns c = rw c.in_ok-number.ensures refl
