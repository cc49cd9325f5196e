-- Why `put_at` keeps its contract.
use Rattle.std.proofs.Common.{refl}
use Rattle.std.proofs.lemmas.Result.{err_from_is_err_and}
use Rattle.cmd_lines.proofs.Sound.{IsLine}
use Rattle.cmd_lines.proofs.WholeLine.{reading_spells}
use Rattle.cmd_lines.proofs.StandLaws.{item_spelled, item_refused}
use Rattle.cmd_lines.proofs.FaultLaws.{not_read, read_for_memory}
use Rattle.cmd_lines.proofs.ItemLaws.{read_spells}
use Rattle.cmd_lines.proofs.line_item.put_at.Goals as goal

pub returns-in-Ok : goal.returns-in-Ok
returns-in-Ok c =
    let line : IsLine c.args.line.now = record { one = c.requires.whole.one; ended = c.requires.whole.ended } in
    let stamped = c.in-Ok.stamped in
    let is = item_spelled c.definitions_agree.ensures c.args.number c.args.line.now stamped (reading_spells c.definitions_agree.ensures c.args.line.now stamped line c.in-Ok.ensures) in
    record { put = (stamped, is, c.push_reserved.ensures.items); of_text = rw is tt; capacity = c.push_reserved.ensures.capacity; memory = tt; err = tt }

pub returns-in_ok-fault-in-Err : goal.returns-in_ok-fault-in-Err
returns-in_ok-fault-in-Err c =
    let f = c.in_ok-fault-in-Err.ensures.fault in
    let is = item_refused c.args.number c.args.line.now c.in-Err.fault (not_read c.args.line.now c.in-Err.fault c.in-Err.ensures f.1) in
    record { put = (rw f.0 is, refl); of_text = rw is f.1; capacity = refl; memory = tt; err = tt }

pub returns-in_err-fault-in-Err-clause-memory : goal.returns-in_err-fault-in-Err-clause-memory
returns-in_err-fault-in-Err-clause-memory c =
    let line : IsLine c.args.line.now = record { one = c.requires.whole.one; ended = c.requires.whole.ended } in
    let read = read_for_memory c.definitions_agree.ensures c.args.line.now c.in-Err.fault c.in-Err.ensures c.in_err-fault-in-Err.ensures.memory in
    let spelled = read_spells c.definitions_agree.ensures c.args.line.now read.0 line read.1 in
    rw (err_from_is_err_and c.from_residual.result c.from_residual.ensures.1).1 (spelled.0, item_spelled c.definitions_agree.ensures c.args.number c.args.line.now spelled.0 spelled.1)
