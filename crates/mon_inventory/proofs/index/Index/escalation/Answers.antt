use Rattle.mon_inventory.proofs.Fine.{all_three}
use Rattle.mon_inventory.proofs.index.Index.escalation.Goals as goal

pub value_of-requires-3 : goal.value_of-requires-3
value_of-requires-3 c = (all_three _ _ _ c.requires.fine.numbered).2
