use Rattle.mon_engine.proofs.HeardLemmas.{a_recovery_goes_to_who_is_owed_it, ends_change_nothing_else, nobody_is_owed_who_could_be_told, one_recovery_an_object, the_end_goes_to_who_heard_the_beginning, the_end_has_the_number_of_the_problem}
use Rattle.mon_engine.proofs.StillOwedLemmas.{only_its_contacts_are_owed}
use Rattle.mon_engine.proofs.notice_laws.the_end_goes_to_who_heard_the_beginning.Goals as goal

pub returns-clause-heard : goal.returns-clause-heard
returns-clause-heard c = the_end_goes_to_who_heard_the_beginning c.law_of_the_clock.ensures.each c.law_of_the_clock.ensures.done

pub returns-clause-contacts : goal.returns-clause-contacts
returns-clause-contacts c = only_its_contacts_are_owed c.law_of_the_clock.ensures.each c.law_of_the_clock.ensures.done

pub returns-clause-number : goal.returns-clause-number
returns-clause-number c = the_end_has_the_number_of_the_problem c.law_of_the_clock.ensures.each c.law_of_the_clock.ensures.done

pub returns-clause-owed : goal.returns-clause-owed
returns-clause-owed c = a_recovery_goes_to_who_is_owed_it c.law_of_the_clock.ensures.each c.law_of_the_clock.ensures.done

pub returns-clause-one : goal.returns-clause-one
returns-clause-one c = one_recovery_an_object c.law_of_the_clock.ensures.each c.law_of_the_clock.ensures.done

pub returns-clause-told : goal.returns-clause-told
returns-clause-told c = nobody_is_owed_who_could_be_told c.law_of_the_clock.ensures.each c.law_of_the_clock.ensures.done

pub returns-clause-else_same : goal.returns-clause-else_same
returns-clause-else_same c = ends_change_nothing_else
