use Rattle.mon_engine.proofs.HeldLemmas.{held_forgotten}
use Rattle.mon_engine.proofs.monitor.Monitor.tell_notices.Goals as goal

pub invariant_of-self : goal.invariant_of-self
invariant_of-self c = held_forgotten c.self.inside.inventory c.self.inside.state c.forget.new.self c.self.inside.applied c.self.inside.broken c.self.inside.quiet c.self.invariant c.forget.ensures
