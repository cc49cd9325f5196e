use Rattle.std.proofs.Common.{length}
use Rattle.mon_downtime.proofs.WalkedLemmas.{latest_free, latest_marked}
use Rattle.mon_downtime.proofs.links.latest_to_walk.Goals as goal

pub returns-then-link : goal.returns-then-link
returns-then-link c = λ ds w. latest_marked ds c.args.links.now c.args.id (length ds) c.requires.there.0 c.if-link.true

pub returns-else-link : goal.returns-else-link
returns-else-link c = λ ds w. latest_free ds c.args.links.now c.args.id _ c.requires.there.0 c.requires.there.1 c.if-link.false w
