use Rattle.mon_state.proofs.SameLemmas.{a_resumed_world_is_written_the_same, a_text_is_of_one_world}
use Rattle.mon_state.proofs.laws.a_state_tells_what_goes_on.Goals as goal

pub returns-clause-same : goal.returns-clause-same
returns-clause-same c = a_resumed_world_is_written_the_same

pub returns-clause-one : goal.returns-clause-one
returns-clause-one c = a_text_is_of_one_world
