-- Why `UnreadBytes::new` keeps its contract.
use Rattle.std.proofs.Common.{arith}
use Rattle.cmd_lines.proofs.KeptLaws.{kept_none}
use Rattle.cmd_lines.proofs.kept.UnreadBytes.new.Goals as goal

pub invariant_of-result : goal.invariant_of-result
invariant_of-result c = (kept_none c.new.result.items c.new.result.items c.new.ensures.items c.new.ensures.items, omega arith, omega arith)
