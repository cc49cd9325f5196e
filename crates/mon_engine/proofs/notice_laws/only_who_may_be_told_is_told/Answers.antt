use Rattle.mon_engine.proofs.SentLemmas.{only_who_may_be_told_is_told, the_clock_tells_who_may_be_told}
use Rattle.mon_engine.proofs.notice_laws.only_who_may_be_told_is_told.Goals as goal

pub returns-clause-entry : goal.returns-clause-entry
returns-clause-entry c = only_who_may_be_told_is_told c.law_of_the_clock.ensures.each c.law_of_the_clock.ensures.done

pub returns-clause-clock : goal.returns-clause-clock
returns-clause-clock c = the_clock_tells_who_may_be_told
