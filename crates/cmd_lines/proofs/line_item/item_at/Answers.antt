-- Why `item_at` keeps its contract.
use Rattle.std.proofs.Common.{sym}
use Rattle.std.proofs.lemmas.Result.{err_from_is_err_and}
use Rattle.cmd_lines.proofs.Sound.{IsLine}
use Rattle.cmd_lines.proofs.WholeLine.{reading_spells}
use Rattle.cmd_lines.proofs.StandLaws.{item_spelled, item_refused}
use Rattle.cmd_lines.proofs.FaultLaws.{not_read, read_for_memory}
use Rattle.cmd_lines.proofs.ItemLaws.{read_spells}
use Rattle.cmd_lines.proofs.line_item.item_at.Goals as goal

pub returns-in-Ok-clause-value : goal.returns-in-Ok-clause-value
returns-in-Ok-clause-value c =
    let line : IsLine c.args.line.now = record { one = c.requires.one; ended = c.requires.ended } in
    sym (item_spelled c.definitions_agree.ensures c.args.number c.args.line.now c.in-Ok.stamped (reading_spells c.definitions_agree.ensures c.args.line.now c.in-Ok.stamped line c.in-Ok.ensures))

pub returns-in_ok-fault-in-Err-clause-value : goal.returns-in_ok-fault-in-Err-clause-value
returns-in_ok-fault-in-Err-clause-value c =
    let f = c.in_ok-fault-in-Err.ensures.fault in
    rw f.0 (sym (item_refused c.args.number c.args.line.now c.in-Err.fault (not_read c.args.line.now c.in-Err.fault c.in-Err.ensures f.1)))

pub returns-in_err-fault-in-Err-clause-memory : goal.returns-in_err-fault-in-Err-clause-memory
returns-in_err-fault-in-Err-clause-memory c =
    let line : IsLine c.args.line.now = record { one = c.requires.one; ended = c.requires.ended } in
    let read = read_for_memory c.definitions_agree.ensures c.args.line.now c.in-Err.fault c.in-Err.ensures c.in_err-fault-in-Err.ensures.memory in
    let spelled = read_spells c.definitions_agree.ensures c.args.line.now read.0 line read.1 in
    rw (err_from_is_err_and c.from_residual.result c.from_residual.ensures.1).1 (spelled.0, item_spelled c.definitions_agree.ensures c.args.number c.args.line.now spelled.0 spelled.1)
