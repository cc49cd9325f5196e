use Rattle.std.proofs.Common.{length, ap, arith}
use Rattle.std.specs.Vec.Iter.{into_iter_items}
use Rattle.cmd_queue.proofs.Lists.{length-row}
use Rattle.cmd_queue.proofs.row.Batch.open.Goals as goal

pub unreachable-requires : goal.unreachable-requires
unreachable-requires c =
    let batch = c.self.inside in
    let none = ap length c.in-None.ensures.0 in
    omega (arith, none, length-row batch.before batch.sender (into_iter_items c.into_iter.result), ap length c.into_iter.ensures.rest, c.self.invariant.0)
