use Rattle.std.proofs.Common.{refl}
use Rattle.cmd_types.proofs.numbers.Numbers.new.Goals as goal

pub returns : goal.returns
returns c = refl
