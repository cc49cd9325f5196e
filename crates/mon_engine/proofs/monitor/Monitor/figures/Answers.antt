use Rattle.mon_engine.proofs.monitor.Monitor.figures.Goals as goal

pub returns-clause-counts : goal.returns-clause-counts
returns-clause-counts c = rw (← c.self.view_is) c.figures.ensures.counts
