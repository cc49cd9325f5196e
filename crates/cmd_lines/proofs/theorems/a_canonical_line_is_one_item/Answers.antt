-- Why `a_canonical_line_is_one_item` keeps its contract.
use Rattle.cmd_lines.proofs.Canonical.{one_more}
use Rattle.cmd_lines.proofs.theorems.a_canonical_line_is_one_item.Goals as goal

pub returns : goal.returns
returns c = one_more c.definitions_agree.ensures
