use Rattle.std.proofs.Common.{length, ap, arith}
use Rattle.std.specs.Vec.Iter.{into_iter_items}
use Rattle.cmd_queue.proofs.Lists.{length-row}
use Rattle.cmd_queue.proofs.row.Batch.into_row.Goals as goal

pub returns-clause-some : goal.returns-clause-some
returns-clause-some c =
    let batch = c.self.inside in
    omega (arith, length-row batch.before batch.sender (into_iter_items c.into_iter.result), ap length c.into_iter.ensures.rest, c.self.invariant.0)
