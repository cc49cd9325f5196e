use Rattle.std.proofs.Common.{refl}
use Rattle.cmd_dispatch.proofs.feed.BytesFeed.failing.Goals as goal

pub returns : goal.returns
returns c = refl
