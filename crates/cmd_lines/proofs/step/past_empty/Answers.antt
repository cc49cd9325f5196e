-- Why `past_empty` keeps its contract.
use Rattle.std.proofs.Common.{◌≡◌, length, Some, ◌+◌, sym, subst, ap, ◌∙◌}
use Rattle.std.proofs.lemmas.Bool.{eqb-true}
use Rattle.std.specs.Option.{option_copied}
use Rattle.cmd_types.specs.Bytes.{without_returns}
use Rattle.cmd_lines.specs.Items.{item_of}
use Rattle.cmd_lines.specs.Steps.{Passes}
use Rattle.cmd_lines.proofs.PassLaws.{none_is, pass_first}
use Rattle.cmd_lines.proofs.step.past_empty.Goals as goal

pub lines-preserved : goal.lines-preserved
lines-preserved c =
    let i = c.lines.invariant in
    let line = c.in-Some.line.now in
    let is : c.next.new.self ≡ Some c.in-Some-rest.rest.now = sym c.rest.ensures ∙ ap option_copied c.in-Some-rest.is in
    let empty : length (without_returns line) ≡ 0 = rw (← c.without_returns.ensures.value) (eqb-true _ _ (sym c.if-not-is_empty.ensures)) in
    let passed = pass_first c.definitions_agree.ensures c.args.number c.args.pending.now c.lines.first c.lines.left.now line c.in-Some-rest.rest.now c.lines.lines c.next.new.self i.1 i.0 c.in-Some.ensures.steps is in
    (is, subst (λ gs. Passes c.args.number c.args.pending.now gs (c.lines.first + 1) c.in-Some-rest.rest.now) (none_is (without_returns line) (item_of c.lines.first (without_returns line)) empty) passed)
