-- Why `next_line` keeps its contract.
use Rattle.std.proofs.Common.{◌≡◌, ◌<◌, length, Some, ◌+◌, sym, subst, ap, ◌∙◌, arith}
use Rattle.std.proofs.lemmas.Bool.{eqb-true, eqb-false}
use Rattle.std.specs.Option.{option_copied}
use Rattle.cmd_types.specs.Bytes.{without_returns}
use Rattle.cmd_lines.specs.Items.{item_of}
use Rattle.cmd_lines.specs.Steps.{Passes}
use Rattle.cmd_lines.proofs.PassLaws.{some_is, none_is, pass_first}
use Rattle.cmd_lines.proofs.step.next_line.Goals as goal

pub returns-then-not-is_empty : goal.returns-then-not-is_empty
returns-then-not-is_empty c =
    let i = c.lines.invariant in
    let first = c.in-Some.ensures.steps in
    let line = c.in-Some.line.now in
    let is : c.next.new.self ≡ Some c.in-Some-rest.rest.now = sym c.rest.ensures ∙ ap option_copied c.in-Some-rest.is in
    let some : 0 < length (without_returns line) = rw (← c.without_returns-line.ensures.value) (omega (arith, eqb-false (length c.without_returns-line.result.now) 0 (sym c.if-not-is_empty.ensures))) in
    let passed = pass_first c.definitions_agree.ensures c.args.number c.args.pending.now c.lines.number i.0 line c.in-Some-rest.rest.now c.lines.lines c.next.new.self i.2 i.1 first is in
    let trimmed = c.without_returns-line.ensures in (
      record { one = trimmed.lacks 10 first.one; ended = trimmed.ended; some = rw trimmed.value some },
      rw trimmed.value (subst (λ gs. Passes c.args.number c.args.pending.now gs (c.lines.number + 1) c.in-Some-rest.rest.now) (some_is (without_returns line) (item_of c.lines.number (without_returns line)) some) passed),
      i.2.onward,
    )

pub lines-preserved : goal.lines-preserved
lines-preserved c =
    let i = c.lines.invariant in
    let first = c.in-Some.ensures.steps in
    let line = c.in-Some.line.now in
    let is : c.next.new.self ≡ Some c.in-Some-rest.rest.now = sym c.rest.ensures ∙ ap option_copied c.in-Some-rest.is in
    let empty : length (without_returns line) ≡ 0 = rw (← c.without_returns-line.ensures.value) (eqb-true _ _ (sym c.if-not-is_empty.ensures)) in
    let passed = pass_first c.definitions_agree.ensures c.args.number c.args.pending.now c.lines.number i.0 line c.in-Some-rest.rest.now c.lines.lines c.next.new.self i.2 i.1 first is in
    (c.in-Some-rest.rest.now, is, subst (λ gs. Passes c.args.number c.args.pending.now gs (c.lines.number + 1) c.in-Some-rest.rest.now) (none_is (without_returns line) (item_of c.lines.number (without_returns line)) empty) passed)
