use Rattle.cmd_queue.specs.Sides.{Taking}
use Rattle.cmd_queue.specs.Ends.{AreTallies}
use Rattle.cmd_queue.proofs.Takers.{tally_at}
use Rattle.cmd_queue.proofs.dispatcher.DispatcherSide.closed.Goals as goal

pub returns : goal.returns
returns c =
    let t : Taking = c.args.self.now in
    let are : AreTallies c.self.inside.tallies.items t.senders t.list = rw (← c.self.view_is) c.self.invariant.1.1 in
    (tally_at c.self.inside.tallies.items t.senders t.list c.args.sender c.from.result c.index-known.result.now are c.requires c.from.ensures c.index-known.ensures).1
