use Rattle.std.proofs.Common.{arith}
use Rattle.mon_inventory.specs.Index.{configuration}
use Rattle.mon_inventory.proofs.Fine.{object_within}
use Rattle.mon_inventory.proofs.index.Index.add_volatile.Goals as goal

pub index_mut-requires : goal.index_mut-requires
index_mut-requires c =
    let m = c.requires.indexed.directives_many in
    let of = c.requires.object in
    let w = object_within (configuration c.args.self.now) c.args.volatile.now.host.now c.args.volatile.now.service.now c.requires.fine.host_known c.requires.fine.service_known in
    omega arith
