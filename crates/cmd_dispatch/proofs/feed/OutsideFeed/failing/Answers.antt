use Rattle.std.proofs.Common.{refl}
use Rattle.cmd_dispatch.proofs.feed.OutsideFeed.failing.Goals as goal

pub returns : goal.returns
returns g c = refl
