use Rattle.std.proofs.Common.{refl}
use Rattle.mon_engine.proofs.switches.set_notifications.Goals as goal

pub returns : goal.returns
returns c = refl
