use Rattle.mon_downtime.proofs.keeping.reserve.Goals as goal

pub returns-in-None-clause-records : goal.returns-in-None-clause-records
returns-in-None-clause-records c = c.reserve.ensures.items
