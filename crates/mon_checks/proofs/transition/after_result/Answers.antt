use Rattle.std.proofs.Common.{rules}
use Rattle.mon_checks.proofs.transition.after_result.Goals as goal

pub returns-then-recovered-clause-change : goal.returns-then-recovered-clause-change
returns-then-recovered-clause-change c = search rules

pub returns-else-recovered-clause-status : goal.returns-else-recovered-clause-status
returns-else-recovered-clause-status c = search rules

pub returns-else-recovered-clause-change : goal.returns-else-recovered-clause-change
returns-else-recovered-clause-change c = search rules

pub returns-else-recovered-clause-within : goal.returns-else-recovered-clause-within
returns-else-recovered-clause-within c = search rules
