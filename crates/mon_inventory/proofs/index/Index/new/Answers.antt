use Rattle.std.proofs.Common.{rules}
use Rattle.mon_inventory.proofs.Indexed.{indexed_empty}
use Rattle.mon_inventory.proofs.index.Index.new.Goals as goal

pub returns-clause-indexed : goal.returns-clause-indexed
returns-clause-indexed c = indexed_empty _ (search rules) (search rules) (search rules) (search rules) (search rules) (search rules) (search rules) (search rules) (search rules)
