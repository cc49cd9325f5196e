use Rattle.std.proofs.Common.{rules}
use Rattle.mon_engine.proofs.results.acknowledgement_after.Goals as goal

pub returns-in_default : goal.returns-in_default
returns-in_default c = search rules

pub returns-in-Sticky : goal.returns-in-Sticky
returns-in-Sticky c = search rules
