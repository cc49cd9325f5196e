use Rattle.std.proofs.Common.{refl}
use Rattle.cmd_types.proofs.stamped.Stamped.well_formed.Goals as goal

pub invariant_of-result : goal.invariant_of-result
invariant_of-result c = c.requires

pub returns-clause-value : goal.returns-clause-value
returns-clause-value c = refl

pub returns-clause-fits : goal.returns-clause-fits
returns-clause-fits c = c.requires
