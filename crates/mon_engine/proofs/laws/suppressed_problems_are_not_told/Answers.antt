use Rattle.mon_engine.proofs.SuppressedLemmas.{suppressed_problems_are_not_told}
use Rattle.mon_engine.proofs.laws.suppressed_problems_are_not_told.Goals as goal

pub returns : goal.returns
returns c = suppressed_problems_are_not_told c.law_of_the_clock.ensures.each c.law_of_the_clock.ensures.done
