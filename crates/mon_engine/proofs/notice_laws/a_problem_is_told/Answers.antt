use Rattle.mon_engine.proofs.FirstLemmas.{a_problem_is_told}
use Rattle.mon_engine.proofs.LaterLemmas.{a_problem_is_told_after_any_journal}
use Rattle.mon_engine.proofs.UnlessLemmas.{a_problem_is_told_unless_withheld}
use Rattle.mon_engine.proofs.notice_laws.a_problem_is_told.Goals as goal

pub returns-clause-told : goal.returns-clause-told
returns-clause-told c = a_problem_is_told

pub returns-clause-afterwards : goal.returns-clause-afterwards
returns-clause-afterwards c = a_problem_is_told_after_any_journal c.due_is_first.ensures c.downtimes_are_in_time.ensures.starts c.law_of_the_clock.ensures.done

pub returns-clause-unless : goal.returns-clause-unless
returns-clause-unless c = a_problem_is_told_unless_withheld
