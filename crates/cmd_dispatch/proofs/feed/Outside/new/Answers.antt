use Rattle.std.proofs.Common.{refl}
use Rattle.cmd_dispatch.proofs.feed.Outside.new.Goals as goal

pub returns : goal.returns
returns g c = refl
