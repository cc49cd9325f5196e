use Rattle.std.proofs.Common.{sym, arith}
use Rattle.mon_downtime.proofs.RecordLemmas.{record_found}
use Rattle.mon_downtime.proofs.RangeLemmas.{start_small}
use Rattle.mon_downtime.proofs.due.start_event.Goals as goal

pub new-requires : goal.new-requires
new-requires c =
    let its = record_found 0 _ c.args.id c.in_ok-d.d.now c.requires (sym c.in_ok-d.ensures) in
    let small = start_small c.args.records.now c.in_ok-d.d.now its.0 c.in_ok-start_of-in-Pending.field-0 c.requires its.1 (sym c.in_ok-start_of-in-Pending.ensures) in
    omega arith
