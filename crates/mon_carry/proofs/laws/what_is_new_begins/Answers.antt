use Rattle.mon_carry.proofs.LawLemmas.{new_objects_begin, new_objects_have_no_comments, new_objects_have_no_downtimes, new_contacts_begin}
use Rattle.mon_carry.proofs.OwedLawLemmas.{new_objects_owe_nobody, who_is_presumed, numbers_where_it_comes}
use Rattle.mon_carry.proofs.laws.what_is_new_begins.Goals as goal

pub returns-clause-objects : goal.returns-clause-objects
returns-clause-objects c = new_objects_begin

pub returns-clause-comments : goal.returns-clause-comments
returns-clause-comments c = new_objects_have_no_comments

pub returns-clause-downtimes : goal.returns-clause-downtimes
returns-clause-downtimes c = new_objects_have_no_downtimes

pub returns-clause-contacts : goal.returns-clause-contacts
returns-clause-contacts c = new_contacts_begin

pub returns-clause-owed : goal.returns-clause-owed
returns-clause-owed c = new_objects_owe_nobody

pub returns-clause-presumed : goal.returns-clause-presumed
returns-clause-presumed c = who_is_presumed

pub returns-clause-numbers : goal.returns-clause-numbers
returns-clause-numbers c = numbers_where_it_comes
