use Rattle.mon_engine.proofs.SilenceLemmas.{silence_is_kept}
use Rattle.mon_engine.proofs.notice_laws.silence_is_kept.Goals as goal

pub returns : goal.returns
returns c = silence_is_kept c.law_of_the_clock.ensures.each c.law_of_the_clock.ensures.done
