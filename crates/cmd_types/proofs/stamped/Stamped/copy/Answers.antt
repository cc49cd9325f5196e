use Rattle.cmd_types.proofs.stamped.Stamped.copy.Goals as goal

pub invariant_of-result : goal.invariant_of-result
invariant_of-result c = rw c.in_ok-clone.ensures.cases c.self.invariant

pub returns : goal.returns
returns c = rw c.in_ok-clone.ensures.cases c.self.view_is
