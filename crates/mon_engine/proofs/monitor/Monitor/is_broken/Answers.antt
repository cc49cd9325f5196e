use Rattle.std.proofs.Common.{ap}
use Rattle.mon_engine.specs.Held.{Held}
use Rattle.mon_engine.proofs.monitor.Monitor.is_broken.Goals as goal

pub returns : goal.returns
returns c = ap (λ (h : Held). h.broken) c.self.view_is
