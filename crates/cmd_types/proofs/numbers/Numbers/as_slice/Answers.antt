use Rattle.std.proofs.Common.{◌∙◌}
use Rattle.cmd_types.proofs.numbers.Numbers.as_slice.Goals as goal

pub returns : goal.returns
returns c = c.deref.ensures.value ∙ c.self.view_is
