use Rattle.std.proofs.Common.{◌≡◌, ◌+◌, ◌-◌, ◌≤◌, ◌∷◌, [], length, Option, List, ap, ◌∙◌, subst, sym, arith}
use Rattle.std.proofs.lemmas.List.{length-append}
use Rattle.mon_inventory.specs.declared.records.ObjectSpec.{ObjectSpec}
use Rattle.mon_state.specs.Reading.{owed_of, next_owed}
use Rattle.mon_state.specs.Cursors.{Fails}
use Rattle.mon_state.proofs.CursorLemmas.{many_more, many_fails, many_end, exit_fails, next_spec}
use Rattle.mon_state.proofs.owed_lines.read_each_owed.Goals as goal

pub returns-in_err-read_owed : goal.returns-in_err-read_owed
returns-in_err-read_owed c =
    let specs = c.args.inventory.now.objects in
    let w = c.loop-spec.invariant in
    let value = c.objects-spec-items.ensures.value in
    let turn = next_spec specs c.objects-spec-items.result.now c.loop-spec.spec-index (length c.loop-spec.owed.items) c.spec-item.result value w.long c.loop-spec-test.true c.spec-item.is in
    let more : c.loop-spec.spec-index + 1 ≤ length specs = (let test = c.loop-spec-test.true in let long = ap (λ (xs : List ObjectSpec). length xs) value in omega arith) in
    exit_fails _ c.from_residual.result _ c.in_err-read_owed.field-0.0 c.read_owed.new.cursor.last c.from_residual.ensures.1
    (many_fails (next_owed specs) (length specs - c.loop-spec.spec-index) (length specs - (c.loop-spec.spec-index + 1)) c.loop-spec.owed.items c.loop-spec.cursor.rest _ c.in_err-read_owed.field-0.0 c.read_owed.new.cursor.last (omega (arith, more))
    (subst (λ (o : Option ObjectSpec). Fails c.in_err-read_owed.field-0.0 c.read_owed.new.cursor.last (owed_of o c.loop-spec.cursor.rest)) (sym turn) c.in_err-read_owed.ensures) w.left)

pub loop-spec-preserved : goal.loop-spec-preserved
loop-spec-preserved c =
    let specs = c.args.inventory.now.objects in
    let w = c.loop-spec.invariant in
    let value = c.objects-spec-items.ensures.value in
    let turn = next_spec specs c.objects-spec-items.result.now c.loop-spec.spec-index (length c.loop-spec.owed.items) c.spec-item.result value w.long c.loop-spec-test.true c.spec-item.is in
    let more : c.loop-spec.spec-index + 1 ≤ length specs = (let test = c.loop-spec-test.true in let long = ap (λ (xs : List ObjectSpec). length xs) value in omega arith) in
    record {
      long = omega (arith, ap length c.in_ok-push.ensures.items, length-append c.loop-spec.owed.items (c.in_ok-read_owed.field-0 ∷ []), w.long);
      left = rw c.in_ok-push.ensures.items
          (many_more (next_owed specs) (length specs - c.loop-spec.spec-index) (length specs - (c.loop-spec.spec-index + 1)) c.loop-spec.owed.items c.in_ok-read_owed.field-0 c.loop-spec.cursor.rest c.read_owed.new.cursor.rest _ (omega (arith, more))
          (ap (λ (o : Option ObjectSpec). owed_of o c.loop-spec.cursor.rest) turn ∙ c.in_ok-read_owed.ensures) w.left);
    }

pub returns : goal.returns
returns c =
    let specs = c.args.inventory.now.objects in
    let value = c.objects-spec-items.ensures.value in
    let none : length specs - c.loop-spec.spec-index ≡ 0 = (let test = c.loop-spec-test.false in let long = ap (λ (xs : List ObjectSpec). length xs) value in omega arith) in
    many_end (next_owed specs) (length specs - c.loop-spec.spec-index) c.loop-spec.owed.items c.loop-spec.cursor.rest _ none c.loop-spec.invariant.left
