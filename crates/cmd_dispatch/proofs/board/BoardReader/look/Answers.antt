use Rattle.std.proofs.Common.{rules}
use Rattle.cmd_dispatch.proofs.BoardSteps.{looks}
use Rattle.cmd_dispatch.proofs.board.BoardReader.look.Goals as goal

pub load-found-requires : goal.load-found-requires
load-found-requires c = (search rules, search rules, looks _ _ _ _ c.self.invariant.1)

pub returns-clause-shown : goal.returns-clause-shown
returns-clause-shown c = search rules

pub returns-clause-entries : goal.returns-clause-entries
returns-clause-entries c = search rules
