use Rattle.mon_engine.proofs.monitor.Monitor.status.Goals as goal

pub returns-clause-ok : goal.returns-clause-ok
returns-clause-ok c = rw (← c.self.view_is) c.in_default.ensures.ok
