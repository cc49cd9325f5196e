use Rattle.std.proofs.Common.{sym, arith}
use Rattle.mon_downtime.proofs.RecordLemmas.{record_found}
use Rattle.mon_downtime.proofs.waiting.opening_of.Goals as goal

pub new-requires : goal.new-requires
new-requires c =
    let small = (record_found 0 _ c.args.id c.in_ok-d.d.now c.requires (sym c.in_ok-d.ensures)).1.start_small in
    omega arith
