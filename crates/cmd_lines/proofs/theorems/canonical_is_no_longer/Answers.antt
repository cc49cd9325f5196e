-- Why `canonical_is_no_longer` keeps its contract.
use Rattle.cmd_lines.proofs.Laws.{canonical_short}
use Rattle.cmd_lines.proofs.theorems.canonical_is_no_longer.Goals as goal

pub returns : goal.returns
returns c = canonical_short c.definitions_agree.ensures
