use Rattle.std.proofs.Common.{ap}
use Rattle.mon_engine.specs.Held.{Held}
use Rattle.mon_engine.proofs.monitor.Monitor.applied.Goals as goal

pub returns : goal.returns
returns c = ap (λ (h : Held). h.applied) c.self.view_is
