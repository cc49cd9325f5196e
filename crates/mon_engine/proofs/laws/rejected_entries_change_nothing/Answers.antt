use Rattle.mon_engine.proofs.EntryLemmas.{rejected_entries_change_nothing}
use Rattle.mon_engine.proofs.laws.rejected_entries_change_nothing.Goals as goal

pub returns : goal.returns
returns c = rejected_entries_change_nothing c.law_of_the_clock.ensures.each c.law_of_the_clock.ensures.done
