-- Why `Skipping::end_line` keeps its contract.
use Rattle.std.proofs.Common.{◌-◌, ℕ, Some, sym, subst, arith}
use Rattle.cmd_lines.specs.declared.item.Item.TheVariants as item
use Rattle.cmd_lines.specs.Reader.{Passing}
use Rattle.cmd_lines.specs.Skips.{Skips}
use Rattle.cmd_lines.proofs.SkippedLaws.{passing, skips_line, skips_done}
use Rattle.cmd_lines.proofs.skip.Skipping.end_line.Goals as goal

pub returns-then-self-eq1-clause-some : goal.returns-then-self-eq1-clause-some
returns-then-self-eq1-clause-some c = λ n f k.
    let x = c.self.inside in
    let now = subst (λ (s : Passing). Skips s n f) (sym c.self.view_is) k in
    let one = subst (λ (l : ℕ). Skips (passing x.reader l x.fed x.lines) n f) c.if-self-eq1.true now in
    let found = rw (c.in-Some-Command.is, c.in-Some-Command.field-0-is) at c.in_ok-item.ensures.item in
    skips_done c.definitions_agree.ensures x.reader x.fed x.lines n f c.args.end.now c.in-Some-Command.stamped c.requires.ended found one

pub returns-else-self-eq1-clause-none : goal.returns-else-self-eq1-clause-none
returns-else-self-eq1-clause-none c = λ n f k.
    let x = c.self.inside in
    let now = subst (λ (s : Passing). Skips s n f) (sym c.self.view_is) k in
    let found = rw (c.in-Some-Command.is, c.in-Some-Command.field-0-is) at c.in_ok-item.ensures.item in
    let some = now.some in
    let other = c.if-self-eq1.false in
    skips_line c.definitions_agree.ensures x.reader c.end_item.new.reader x.left (x.left - 1) x.fed x.lines n f c.args.end.now (Some (item.Command c.in-Some-Command.stamped)) c.requires.ended found c.in_ok-item.ensures.begins
    (omega (arith, some)) (omega (arith, some, other)) now

pub returns-in-Some-Refused-clause-none : goal.returns-in-Some-Refused-clause-none
returns-in-Some-Refused-clause-none c = λ n f k.
    let x = c.self.inside in
    let now = subst (λ (s : Passing). Skips s n f) (sym c.self.view_is) k in
    let some = now.some in
    skips_line c.definitions_agree.ensures x.reader c.end_item.new.reader x.left x.left x.fed x.lines n f c.args.end.now c.in_ok-item.item c.requires.ended c.in_ok-item.ensures.item c.in_ok-item.ensures.begins
    (rw (c.in-Some-Refused.is, c.in-Some-Refused.field-0-is) (omega arith)) some now

pub returns-in-None-clause-none : goal.returns-in-None-clause-none
returns-in-None-clause-none c = λ n f k.
    let x = c.self.inside in
    let now = subst (λ (s : Passing). Skips s n f) (sym c.self.view_is) k in
    let some = now.some in
    skips_line c.definitions_agree.ensures x.reader c.end_item.new.reader x.left x.left x.fed x.lines n f c.args.end.now c.in_ok-item.item c.requires.ended c.in_ok-item.ensures.item c.in_ok-item.ensures.begins
    (rw c.in-None.is (omega arith)) some now
