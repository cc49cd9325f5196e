use Rattle.std.proofs.Common.{◌≡◌, ◌∙◌, ◌-◌, ℕ, None, sym, ap, arith}
use Rattle.std.specs.Option.{option_copied}
use Rattle.cmd_types.specs.Cuts.{after}
use Rattle.cmd_live.specs.PipeTexts.{behind_lines}
use Rattle.cmd_live.proofs.PipeLemmas.{further, further_is, nothing_behind}
use Rattle.cmd_live.proofs.pipe_text.behind_lines.Goals as goal

pub returns-in-None : goal.returns-in-None
returns-in-None c =
    let text = c.args.text.now in
    let done = c.lines.counter in
    let more = c.args.count - done - 1 in
    let none : after 10 (behind_lines done text) ≡ None = ap (after 10) (sym c.lines.invariant) ∙ sym c.cut.ensures.back ∙ ap option_copied c.in-None.is in
    let all : further more done ≡ c.args.count = omega (arith, further_is more done, c.lines-test.true) in
    sym (nothing_behind text more done none) ∙ ap (λ (n : ℕ). behind_lines n text) all
