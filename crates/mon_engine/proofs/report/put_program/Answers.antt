use Rattle.mon_engine.proofs.report.put_program.Goals as goal

pub returns-clause-ok : goal.returns-clause-ok
returns-clause-ok c = c.put_whole.ensures.ok
