use Rattle.mon_engine.proofs.StandingLemmas.{downtimes_stand}
use Rattle.mon_engine.proofs.laws.downtimes_stand.Goals as goal

pub returns : goal.returns
returns c = downtimes_stand c.due_is_first.ensures c.downtimes_are_in_time.ensures.starts c.downtimes_are_in_time.ensures.to_come c.law_of_the_clock.ensures.done
