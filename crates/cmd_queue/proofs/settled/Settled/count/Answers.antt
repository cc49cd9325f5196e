use Rattle.cmd_queue.specs.Sides.{Settlement}
use Rattle.cmd_queue.specs.Ends.{AreTallies}
use Rattle.cmd_queue.proofs.Takers.{tally_at}
use Rattle.cmd_queue.proofs.settled.Settled.count.Goals as goal

pub returns : goal.returns
returns c =
    let t : Settlement = c.args.self.now in
    let are : AreTallies c.self.inside.tallies.items t.senders t.list = rw (← c.self.view_is) c.self.invariant in
    (tally_at c.self.inside.tallies.items t.senders t.list c.args.sender c.from.result c.index.result.now are c.requires c.from.ensures c.index.ensures).0
