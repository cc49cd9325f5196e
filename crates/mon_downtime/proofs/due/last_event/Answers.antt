use Rattle.std.proofs.Common.{sym, arith}
use Rattle.mon_downtime.proofs.RecordLemmas.{record_found}
use Rattle.mon_downtime.proofs.due.last_event.Goals as goal

pub new-requires : goal.new-requires
new-requires c =
    let small = (record_found 0 _ c.args.id c.in_ok-d.d.now c.requires (sym c.in_ok-d.ensures)).1.end_small in
    omega arith

pub new-requires-in-Active : goal.new-requires-in-Active
new-requires-in-Active c =
    let small = rw c.in-Active.is at (record_found 0 _ c.args.id c.in_ok-d.d.now c.requires (sym c.in_ok-d.ensures)).1.fate_small in
    omega (arith, small.1)
