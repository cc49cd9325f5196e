use Rattle.std.proofs.Common.{refl}
use Rattle.cmd_lines.proofs.fault.LineFault.number.Goals as goal

pub returns-in-Torn : goal.returns-in-Torn
returns-in-Torn c = rw c.in-Torn.is refl
