use Rattle.mon_inventory.proofs.FirstFault.{fault_is_first, first_is_told}
use Rattle.mon_inventory.proofs.theorems.fault_is_the_first.Goals as goal

pub returns : goal.returns
returns c = λ lines number cause. (fault_is_first lines number cause, first_is_told lines number cause)
