use Rattle.mon_downtime.proofs.ClockLemmas.{what_is_due_happens, law_of_the_clock, nothing_is_left}
use Rattle.mon_downtime.proofs.laws.law_of_the_clock.Goals as goal

pub returns-clause-each : goal.returns-clause-each
returns-clause-each c = what_is_due_happens

pub returns-clause-twice : goal.returns-clause-twice
returns-clause-twice c = law_of_the_clock

pub returns-clause-done : goal.returns-clause-done
returns-clause-done c = nothing_is_left
