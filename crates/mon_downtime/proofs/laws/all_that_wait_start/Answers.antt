use Rattle.mon_downtime.proofs.ProblemLemmas.{all_that_wait_start, one_starts_after_another}
use Rattle.mon_downtime.proofs.laws.all_that_wait_start.Goals as goal

pub returns-clause-all : goal.returns-clause-all
returns-clause-all c = all_that_wait_start

pub returns-clause-each : goal.returns-clause-each
returns-clause-each c = one_starts_after_another
