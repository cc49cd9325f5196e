use Rattle.mon_engine.proofs.OnceLemmas.{one_problem_an_entry}
use Rattle.mon_engine.proofs.RepeatLemmas.{no_problem_is_told_twice, one_problem_an_object}
use Rattle.mon_engine.proofs.notice_laws.no_problem_is_told_twice.Goals as goal

pub returns-clause-apart : goal.returns-clause-apart
returns-clause-apart c = no_problem_is_told_twice c.law_of_the_clock.ensures.each c.law_of_the_clock.ensures.done

pub returns-clause-one : goal.returns-clause-one
returns-clause-one c = one_problem_an_entry

pub returns-clause-each : goal.returns-clause-each
returns-clause-each c = one_problem_an_object c.law_of_the_clock.ensures.each c.law_of_the_clock.ensures.done
