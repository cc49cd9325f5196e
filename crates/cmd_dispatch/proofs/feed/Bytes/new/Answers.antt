use Rattle.std.proofs.Common.{refl}
use Rattle.cmd_dispatch.proofs.feed.Bytes.new.Goals as goal

pub returns : goal.returns
returns c = refl
