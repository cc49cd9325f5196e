use Rattle.mon_carry.proofs.SavedLemmas.{a_carried_world_is_saved}
use Rattle.mon_carry.proofs.laws.a_carried_world_is_saved.Goals as goal

pub returns : goal.returns
returns c = a_carried_world_is_saved
