use Rattle.mon_engine.proofs.ClockLemmas.{law_of_the_clock, nothing_is_left, the_clock_is_not_read}
use Rattle.mon_engine.proofs.TimeLemmas.{nothing_is_due}
use Rattle.mon_engine.proofs.laws.law_of_the_clock.Goals as goal

pub returns-clause-twice : goal.returns-clause-twice
returns-clause-twice c = law_of_the_clock c.law_of_the_clock.ensures.twice

pub returns-clause-done : goal.returns-clause-done
returns-clause-done c = nothing_is_left c.law_of_the_clock.ensures.done

pub returns-clause-after : goal.returns-clause-after
returns-clause-after c = nothing_is_due c.law_of_the_clock.ensures.done

pub returns-clause-unread : goal.returns-clause-unread
returns-clause-unread c = the_clock_is_not_read
