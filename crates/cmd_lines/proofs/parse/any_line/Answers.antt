-- Why `any_line` keeps its contract.
use Rattle.std.proofs.Common.{◌≡◌, Ok, refl}
use Rattle.std.proofs.lemmas.Result.{err_from_is_err_and}
use Rattle.cmd_types.specs.Table.{kinds, name_of, arguments_of}
use Rattle.cmd_lines.specs.Reading.{behind, named_at, arguments_at}
use Rattle.cmd_lines.proofs.WholeLine.{why_behind, read_behind}
use Rattle.cmd_lines.proofs.parse.any_line.Goals as goal

pub returns-in_err-name-clause-read : goal.returns-in_err-name-clause-read
unfolding behind
returns-in_err-name-clause-read c =
    let p = err_from_is_err_and c.from_residual.result c.from_residual.ensures.1 in
    rw (p.1, p.2, c.in_err-name.ensures) refl

pub returns-in_err-command-clause-read : goal.returns-in_err-command-clause-read
returns-in_err-command-clause-read c =
    let p = err_from_is_err_and c.from_residual-in_err-command.result c.from_residual-in_err-command.ensures.1 in
    rw (p.1, p.2) (why_behind c.args.after.now c.in_ok-name.arguments.now c.in_ok-name.name c.in_err-command.field-0.0 c.in_ok-name.ensures c.in_err-command.ensures.arguments)

pub well_formed-requires : goal.well_formed-requires
well_formed-requires c =
    let command = c.in_ok-command.command in
    let tail = c.in_ok-name.arguments.now in
    let is = c.in_ok-command.ensures.name in
    let named : named_at c.args.after.now ≡ Ok (name_of command, tail) = rw is c.in_ok-name.ensures in
    let read : arguments_at (kinds (name_of command)) 1 tail ≡ Ok (arguments_of command) = rw is c.in_ok-command.ensures.arguments in
    c.requires command (read_behind c.args.after.now tail (name_of command) (arguments_of command) named read)

pub returns-clause-read : goal.returns-clause-read
returns-clause-read c =
    let command = c.in_ok-command.command in
    let tail = c.in_ok-name.arguments.now in
    let is = c.in_ok-command.ensures.name in
    let named : named_at c.args.after.now ≡ Ok (name_of command, tail) = rw is c.in_ok-name.ensures in
    let read : arguments_at (kinds (name_of command)) 1 tail ≡ Ok (arguments_of command) = rw is c.in_ok-command.ensures.arguments in
    rw c.well_formed-2.ensures.value (read_behind c.args.after.now tail (name_of command) (arguments_of command) named read)
