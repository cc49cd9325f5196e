use Rattle.std.proofs.Common.{rules}
use Rattle.mon_notify.proofs.custom.increments.Goals as goal

pub returns : goal.returns
returns c = search rules
