-- Why `read_line` keeps its contract.
use Rattle.std.proofs.Common.{◌≡◌, Ok, refl}
use Rattle.std.proofs.lemmas.Result.{err_from_is_err_and}
use Rattle.cmd_types.specs.declared.command.Command.{Command}
use Rattle.cmd_types.specs.declared.command.Command.TheVariants.{ProcessServiceCheckResult}
use Rattle.cmd_types.specs.Table.{apart}
use Rattle.cmd_lines.specs.Reading.{behind}
use Rattle.cmd_lines.proofs.Sound.{IsLine}
use Rattle.cmd_lines.proofs.WholeLine.{no_stamp, read_whole, fits_behind, line_is}
use Rattle.cmd_lines.proofs.parse.read_line.Goals as goal

pub returns-in_err-time : goal.returns-in_err-time
returns-in_err-time c =
    let p = err_from_is_err_and c.from_residual.result c.from_residual.ensures.1 in
    rw (p.1, p.2, no_stamp c.args.line.now c.in_err-time.field-0.0 c.in_err-time.ensures) refl

pub any_line-requires : goal.any_line-requires
any_line-requires c =
    let line : IsLine c.args.line.now = record { one = c.requires.one_line; ended = c.requires.no_return } in
    fits_behind c.definitions_agree.ensures c.args.line.now c.in_ok-time.after.now c.in_ok-time.time line c.in_ok-time.ensures

pub returns-in_default : goal.returns-in_default
returns-in_default c = line_is c.args.line.now c.in_ok-time.after.now c.in_ok-time.time c.any_line.result c.in_ok-time.ensures c.any_line.ensures.read c.any_line.ensures.time

pub returns-in_err-host : goal.returns-in_err-host
returns-in_err-host c =
    let p = err_from_is_err_and c.from_residual-in_err-host.result c.from_residual-in_err-host.ensures.1 in
    let plain = c.in-Some.plain in
    let read = read_whole c.args.line.now c.in_ok-time.after.now c.in_ok-time.time (ProcessServiceCheckResult plain.host.now plain.service.now plain.code plain.output.now) c.in_ok-time.ensures c.in-Some.ensures in
    rw (p.1, p.2, read) refl

pub returns-in_err-service : goal.returns-in_err-service
returns-in_err-service c =
    let p = err_from_is_err_and c.from_residual-in_err-service.result c.from_residual-in_err-service.ensures.1 in
    let plain = c.in-Some.plain in
    let read = read_whole c.args.line.now c.in_ok-time.after.now c.in_ok-time.time (ProcessServiceCheckResult plain.host.now plain.service.now plain.code plain.output.now) c.in_ok-time.ensures c.in-Some.ensures in
    rw (p.1, p.2, read) refl

pub returns-in_err-output : goal.returns-in_err-output
returns-in_err-output c =
    let p = err_from_is_err_and c.from_residual-in_err-output.result c.from_residual-in_err-output.ensures.1 in
    let plain = c.in-Some.plain in
    let read = read_whole c.args.line.now c.in_ok-time.after.now c.in_ok-time.time (ProcessServiceCheckResult plain.host.now plain.service.now plain.code plain.output.now) c.in_ok-time.ensures c.in-Some.ensures in
    rw (p.1, p.2, read) refl

pub well_formed-requires : goal.well_formed-requires
well_formed-requires c =
    let line : IsLine c.args.line.now = record { one = c.requires.one_line; ended = c.requires.no_return } in
    let command : Command = ProcessServiceCheckResult c.in_ok-host.host c.in_ok-service.service c.in-Some.plain.code c.in_ok-output.output in
    let read : behind c.in_ok-time.after.now ≡ Ok (apart command) = rw (c.in_ok-host.ensures, c.in_ok-service.ensures, c.in_ok-output.ensures) c.in-Some.ensures in
    fits_behind c.definitions_agree.ensures c.args.line.now c.in_ok-time.after.now c.in_ok-time.time line c.in_ok-time.ensures command read

pub returns : goal.returns
returns c =
    let command : Command = ProcessServiceCheckResult c.in_ok-host.host c.in_ok-service.service c.in-Some.plain.code c.in_ok-output.output in
    let read : behind c.in_ok-time.after.now ≡ Ok (apart command) = rw (c.in_ok-host.ensures, c.in_ok-service.ensures, c.in_ok-output.ensures) c.in-Some.ensures in
    rw c.well_formed-2.ensures.value (read_whole c.args.line.now c.in_ok-time.after.now c.in_ok-time.time command c.in_ok-time.ensures read)
