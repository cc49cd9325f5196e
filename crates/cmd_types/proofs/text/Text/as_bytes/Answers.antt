-- Why `as_bytes` keeps its contract.
use Rattle.std.proofs.Common.{◌∙◌}
use Rattle.cmd_types.proofs.text.Text.as_bytes.Goals as goal

pub shared_ref_as_front-result : goal.shared_ref_as_front-result
shared_ref_as_front-result c =
    let held = c.self.invariant in
    (rw c.in-Inside.is at held)

pub returns-in-Outside : goal.returns-in-Outside
returns-in-Outside c = c.deref.ensures.value ∙ (rw c.in-Outside.is at c.self.view_is)
