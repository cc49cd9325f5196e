use Rattle.mon_carry.proofs.LawLemmas.{comments_are_of_objects_that_stand, downtimes_of_gone_objects_are_over, what_waits_for_them_does_not_start}
use Rattle.mon_carry.proofs.OwedLawLemmas.{nobody_is_owed_without_it}
use Rattle.mon_carry.proofs.laws.what_is_gone_is_over.Goals as goal

pub returns-clause-comments : goal.returns-clause-comments
returns-clause-comments c = comments_are_of_objects_that_stand

pub returns-clause-downtimes : goal.returns-clause-downtimes
returns-clause-downtimes c = downtimes_of_gone_objects_are_over

pub returns-clause-triggers : goal.returns-clause-triggers
returns-clause-triggers c = what_waits_for_them_does_not_start

pub returns-clause-owed : goal.returns-clause-owed
returns-clause-owed c = nobody_is_owed_without_it
