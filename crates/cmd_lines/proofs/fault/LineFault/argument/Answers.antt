use Rattle.std.proofs.Common.{refl}
use Rattle.cmd_lines.proofs.fault.LineFault.argument.Goals as goal

pub returns-in-EmptyName : goal.returns-in-EmptyName
returns-in-EmptyName c = rw c.in-EmptyName.is refl
