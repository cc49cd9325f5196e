use Rattle.mon_downtime.proofs.TimeLemmas.{starts_are_in_time, what_is_not_due_is_to_come}
use Rattle.mon_downtime.proofs.laws.downtimes_are_in_time.Goals as goal

pub returns-clause-starts : goal.returns-clause-starts
returns-clause-starts c = starts_are_in_time

pub returns-clause-to_come : goal.returns-clause-to_come
returns-clause-to_come c = what_is_not_due_is_to_come
