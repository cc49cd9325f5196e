use Rattle.cmd_answer.proofs.ended.put.Goals as goal

pub returns-clause-put : goal.returns-clause-put
returns-clause-put g c = tt
