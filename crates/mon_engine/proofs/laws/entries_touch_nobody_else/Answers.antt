use Rattle.mon_engine.proofs.TouchLemmas.{other_objects_stay, other_downtimes_stay, new_downtimes_are_asked}
use Rattle.mon_engine.proofs.laws.entries_touch_nobody_else.Goals as goal

pub returns-clause-objects : goal.returns-clause-objects
returns-clause-objects c = other_objects_stay

pub returns-clause-downtimes : goal.returns-clause-downtimes
returns-clause-downtimes c = other_downtimes_stay

pub returns-clause-new : goal.returns-clause-new
returns-clause-new c = new_downtimes_are_asked
