use Rattle.mon_engine.proofs.SavedLemmas.{journals_are_well_formed, an_initial_world_is_saved, a_world_that_goes_on_is_saved, a_world_of_entries_is_saved, a_resumed_world_is_saved, a_world_of_a_journal_is_saved}
use Rattle.mon_engine.proofs.saved_laws.a_world_of_entries_is_saved.Goals as goal

pub returns-clause-first : goal.returns-clause-first
returns-clause-first c = an_initial_world_is_saved

pub returns-clause-entries : goal.returns-clause-entries
returns-clause-entries c = a_world_of_entries_is_saved c.comments_stay_in_order.ensures c.records_stay_records.ensures c.law_of_the_clock.ensures.each c.law_of_the_clock.ensures.done

pub returns-clause-goes_on : goal.returns-clause-goes_on
returns-clause-goes_on c = a_world_that_goes_on_is_saved

pub returns-clause-resumed : goal.returns-clause-resumed
returns-clause-resumed c = a_resumed_world_is_saved c.comments_stay_in_order.ensures c.records_stay_records.ensures c.law_of_the_clock.ensures.each c.law_of_the_clock.ensures.done

pub returns-clause-formed : goal.returns-clause-formed
returns-clause-formed c = journals_are_well_formed

pub returns-clause-journal : goal.returns-clause-journal
returns-clause-journal c = a_world_of_a_journal_is_saved c.comments_stay_in_order.ensures c.records_stay_records.ensures c.law_of_the_clock.ensures.each c.law_of_the_clock.ensures.done
