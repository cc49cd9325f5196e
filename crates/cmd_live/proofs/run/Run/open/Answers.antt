use Rattle.cmd_live.proofs.run.Run.open.Goals as goal

pub returns-clause-one_each : goal.returns-clause-one_each
returns-clause-one_each g c = rw c.deref.ensures.value at c.open_feeds.ensures.one_each

pub returns-clause-starts : goal.returns-clause-starts
returns-clause-starts g c = rw c.deref.ensures.value at c.open_feeds.ensures.starts

pub returns-clause-stops : goal.returns-clause-stops
returns-clause-stops g c = rw c.deref.ensures.value at c.open_feeds.ensures.stops
