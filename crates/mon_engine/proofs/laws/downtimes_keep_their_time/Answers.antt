use Rattle.mon_engine.proofs.TimeLemmas.{downtimes_keep_their_time}
use Rattle.mon_engine.proofs.laws.downtimes_keep_their_time.Goals as goal

pub returns : goal.returns
returns c = downtimes_keep_their_time c.downtimes_are_in_time.ensures.starts c.downtimes_are_in_time.ensures.to_come c.law_of_the_clock.ensures.done
