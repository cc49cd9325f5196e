use Rattle.mon_carry.proofs.LawLemmas.{objects_stand, statuses_stand, comments_stand, downtimes_stand, depths_stand, contacts_stand, the_same_inventory_changes_nothing_else, the_same_inventory_changes_nothing}
use Rattle.mon_carry.proofs.OwedLawLemmas.{owed_stands, ends_keep_their_numbers}
use Rattle.mon_carry.proofs.laws.what_is_the_same_stands.Goals as goal

pub returns-clause-objects : goal.returns-clause-objects
returns-clause-objects c = objects_stand

pub returns-clause-statuses : goal.returns-clause-statuses
returns-clause-statuses c = statuses_stand

pub returns-clause-comments : goal.returns-clause-comments
returns-clause-comments c = comments_stand

pub returns-clause-downtimes : goal.returns-clause-downtimes
returns-clause-downtimes c = downtimes_stand

pub returns-clause-depths : goal.returns-clause-depths
returns-clause-depths c = depths_stand

pub returns-clause-contacts : goal.returns-clause-contacts
returns-clause-contacts c = contacts_stand

pub returns-clause-owed : goal.returns-clause-owed
returns-clause-owed c = owed_stands

pub returns-clause-ends : goal.returns-clause-ends
returns-clause-ends c = ends_keep_their_numbers

pub returns-clause-same_but_owed : goal.returns-clause-same_but_owed
returns-clause-same_but_owed c = the_same_inventory_changes_nothing_else

pub returns-clause-same : goal.returns-clause-same
returns-clause-same c = the_same_inventory_changes_nothing
