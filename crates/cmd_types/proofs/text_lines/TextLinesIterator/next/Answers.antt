-- Why `TextLines::next` keeps its contract.
use Rattle.std.proofs.Common.{ap, sym, ◌∙◌, arith}
use Rattle.std.specs.Option.{option_copied}
use Rattle.cmd_types.proofs.LineLaws.{first_line}
use Rattle.cmd_types.proofs.text_lines.TextLinesIterator.next.Goals as goal

pub returns-clause-steps : goal.returns-clause-steps
returns-clause-steps c =
    first_line _ c.in_ok-text.text.now c.cut.result.0.now (option_copied c.cut.result.1) (sym c.self.view_is ∙ ap option_copied c.in_ok-text.was) c.cut.ensures.first c.cut.ensures.parts

pub returns-clause-goes : goal.returns-clause-goes
returns-clause-goes c =
    let first = first_line c.args.self.now c.in_ok-text.text.now c.cut.result.0.now (option_copied c.cut.result.1) (sym c.self.view_is ∙ ap option_copied c.in_ok-text.was) c.cut.ensures.first c.cut.ensures.parts in
    record { on = λ finite. (tt, tt, omega (arith, first.fewer_lines)); keeps = tt; rests = λ finite. tt }
