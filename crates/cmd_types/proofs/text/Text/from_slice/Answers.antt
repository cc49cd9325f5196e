use Rattle.std.proofs.Math.Seq.{take-append_seam}
use Rattle.cmd_types.proofs.text.Text.from_slice.Goals as goal

pub returns : goal.returns
returns c = rw c.copy_from_slice.ensures.after (take-append_seam _ _)
