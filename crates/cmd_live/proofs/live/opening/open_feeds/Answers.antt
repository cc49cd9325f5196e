use Rattle.cmd_live.proofs.FollowLemmas.{contains_at}
use Rattle.cmd_live.proofs.live.opening.open_feeds.Goals as goal

pub returns-in-None-clause-stops : goal.returns-in-None-clause-stops
returns-in-None-clause-stops g c =
    c.unopened.ensures _ (contains_at (λ gate. gate.path.now) c.args.gates.now c.loop-feed.feed c.index-gates-feed.result c.loop-feed-test.true c.index-gates-feed.is)
