use Rattle.std.proofs.Common.{arith}
use Rattle.std.specs.Fmt.{decimal}
use Rattle.cmd_types.specs.Spelling.{texts}
use Rattle.cmd_types.specs.Table.{name_text, name_of, arguments_of}
use Rattle.cmd_types.proofs.GrowthLaws.{length_line}
use Rattle.cmd_types.proofs.TableLaws.{name_short}
use Rattle.cmd_types.proofs.argument.fits.Goals as goal

pub returns : goal.returns
returns c =
    let all = rw (c.arguments.ensures, c.text.ensures, c.name.ensures, c.decimal_len.ensures.digits) at c.all_fit.ensures in
    let line = length_line (decimal c.args.time) (name_text (name_of c.args.command.now)) (texts (arguments_of c.args.command.now)) in
    (λ t. let h = all.0 t in record { time = omega arith; arguments = h.0; short = omega (arith, line, h.1, name_short (name_of c.args.command.now)) }, λ w. all.1 (w.arguments, omega (arith, line, w.short)))
