-- Why `last_item` keeps its contract.
use Rattle.std.proofs.Common.{◌≡◌, ◌<◌, ◌∷◌, [], cond, ltb, length, refl, sym, ap, ◌∙◌, arith}
use Rattle.std.proofs.lemmas.Bool.{eqb-false, lt-ltb, le-ltb}
use Rattle.std.proofs.lemmas.Result.{err_from_is_err_and}
use Rattle.cmd_types.specs.declared.limits.TheConstants.{LONGEST_LINE}
use Rattle.cmd_lines.specs.declared.fault.LineFault.TheVariants.{TooLong, Torn}
use Rattle.cmd_lines.specs.declared.item.Item.{Item}
use Rattle.cmd_lines.specs.Items.{item_of, torn_item}
use Rattle.cmd_lines.proofs.PassLaws.{some_is}
use Rattle.cmd_lines.proofs.line_item.last_item.Goals as goal
use Rattle.cmd_lines.proofs.line_item.last_item.Goals.{then-line-gt-LONGEST_LINE, else-line-gt-LONGEST_LINE}

pub item_at-requires : goal.item_at-requires
item_at-requires c =
    let trimmed = c.without_returns-line in
    record { one = trimmed.ensures.lacks 10 c.requires; ended = trimmed.ensures.ended; some = omega (arith, eqb-false (length trimmed.result.now) 0 (sym c.if-is_empty.ensures)) }

pub returns-after-line-gt-LONGEST_LINE-clause-value : goal.returns-after-line-gt-LONGEST_LINE-clause-value
returns-after-line-gt-LONGEST_LINE-clause-value c =
    let line = c.without_returns-line.result.now in
    let some : 0 < length line = omega (arith, eqb-false (length line) 0 (sym c.if-is_empty.ensures)) in
    let fault : c.if-line-gt-LONGEST_LINE.fault ≡ cond (ltb LONGEST_LINE (length line)) TooLong Torn = elim c.if-line-gt-LONGEST_LINE.branch [
      | then-line-gt-LONGEST_LINE w ↦ rw (w.fault-is, lt-ltb LONGEST_LINE (length line) (omega arith)) refl
      | else-line-gt-LONGEST_LINE w ↦ rw (w.fault-is, le-ltb LONGEST_LINE (length line) (omega arith)) refl
    ] in
    rw (c.in-CutOff.is, ← c.without_returns-line.ensures.value, fault) (some_is line (torn_item c.args.number line) some)

pub returns-in_ok-item-in-Finished-clause-value : goal.returns-in_ok-item-in-Finished-clause-value
returns-in_ok-item-in-Finished-clause-value c =
    let line = c.without_returns-line.result.now in
    let some : 0 < length line = omega (arith, eqb-false (length line) 0 (sym c.if-is_empty.ensures)) in
    rw (c.in-Finished.is, ← c.without_returns-line.ensures.value, c.in_ok-item-in-Finished.ensures.value) (some_is line (item_of c.args.number line) some)

pub returns-in_err-item-in-Finished-clause-memory : goal.returns-in_err-item-in-Finished-clause-memory
returns-in_err-item-in-Finished-clause-memory c =
    let line = c.without_returns-line.result.now in
    let some : 0 < length line = omega (arith, eqb-false (length line) 0 (sym c.if-is_empty.ensures)) in
    let found = c.in_err-item-in-Finished.ensures.memory in
    rw ((err_from_is_err_and c.from_residual.result c.from_residual.ensures.1).1, c.in-Finished.is, ← c.without_returns-line.ensures.value) (found.0, some_is line (item_of c.args.number line) some ∙ ap (λ (i : Item). i ∷ []) found.1)
