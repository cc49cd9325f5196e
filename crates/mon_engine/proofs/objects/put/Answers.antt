use Rattle.std.proofs.Common.{refl}
use Rattle.mon_engine.proofs.objects.put.Goals as goal

pub returns-in-Delay : goal.returns-in-Delay
returns-in-Delay c = rw c.in-Delay.is refl
