use Rattle.mon_carry.proofs.LawLemmas.{all_else_goes_on}
use Rattle.mon_carry.proofs.laws.ids_go_on_and_nothing_is_told.Goals as goal

pub returns : goal.returns
returns c = all_else_goes_on
