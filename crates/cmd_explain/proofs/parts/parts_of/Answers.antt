use Rattle.std.proofs.Common.{sym, ap, ◌∙◌}
use Rattle.cmd_explain.specs.Parts.{are_small}
use Rattle.cmd_explain.proofs.PartLemmas.{form_digit, form_other, numbers_other, form_whole, numbers_whole, numbers_digit, small_more, great_somewhere}
use Rattle.cmd_explain.proofs.parts.parts_of.Goals as goal
use Rattle.cmd_explain.proofs.parts.parts_of.Goals.{then-is_ascii_digit+in_ok-put_zero+in-Some, else-is_ascii_digit+in_ok-push+in_ok-put_number}

pub returns-in_default : goal.returns-in_default
returns-in_default c =
    let digit = sym c.is_ascii_digit.ensures.value ∙ c.if-is_ascii_digit.true in
    great_somewhere c.loop-byte.numbers.items _ _ _ (rw c.from.ensures at c.in_default.ensures) (numbers_digit c.args.line.now c.loop-byte.byte-index 0 c.loop-byte-test.true c.loop-byte.open c.loop-byte.numbers.items _ digit c.loop-byte.invariant.numbers_so_far)

pub loop-byte-preserved : goal.loop-byte-preserved
loop-byte-preserved c =
    let so_far = c.loop-byte.invariant in
    let line = c.args.line.now in
    let i = c.loop-byte.byte-index in
    let low = c.loop-byte-test.true in
    elim c.if-is_ascii_digit.branch [
      | then-is_ascii_digit+in_ok-put_zero+in-Some w ↦
          let digit = sym c.is_ascii_digit.ensures.value ∙ w.if-is_ascii_digit.true in
          rw (w.form-is, w.numbers-is, w.open-is) (record {
            form_so_far = form_digit line i 0 low _ c.loop-byte.form.items w.put_zero.new.form.items _ digit so_far.form_so_far w.in_ok-put_zero.ensures;
            numbers_so_far = rw (w.in-Some.ensures.0, w.from.ensures) (numbers_digit line i 0 low c.loop-byte.open c.loop-byte.numbers.items _ digit so_far.numbers_so_far);
            small = so_far.small;
            open_small = w.in-Some.ensures.1;
          })
      | else-is_ascii_digit+in_ok-push+in_ok-put_number w ↦
          let other = sym c.is_ascii_digit.ensures.value ∙ w.if-is_ascii_digit.false in
          rw (w.form-is, w.numbers-is, w.open-is) (record {
            form_so_far = form_other line i 0 low _ c.loop-byte.form.items w.push.new.self.items _ other so_far.form_so_far w.in_ok-push.ensures.items;
            numbers_so_far = numbers_other line i 0 low c.loop-byte.open c.loop-byte.numbers.items w.put_number.new.numbers.items _ other so_far.numbers_so_far w.in_ok-put_number.ensures;
            small = small_more c.loop-byte.numbers.items w.put_number.new.numbers.items c.loop-byte.open so_far.small so_far.open_small w.in_ok-put_number.ensures;
            open_small = tt;
          })
    ]

pub returns : goal.returns
returns c =
    let so_far = c.loop-byte.invariant in
    let end = c.loop-byte-test.false in
    let numbers_are = numbers_whole c.args.line.now c.loop-byte.byte-index c.loop-byte.open c.loop-byte.numbers.items c.put_number-2.new.numbers.items _ end so_far.numbers_so_far c.in_ok-put_number-2.ensures in
    let small = small_more c.loop-byte.numbers.items c.put_number-2.new.numbers.items c.loop-byte.open so_far.small so_far.open_small c.in_ok-put_number-2.ensures in
    (sym (ap are_small numbers_are) ∙ small, form_whole c.args.line.now c.loop-byte.byte-index _ c.loop-byte.form.items _ end so_far.form_so_far, numbers_are)
