-- Why `Skipping::feed` keeps its contract.
use Rattle.std.proofs.Common.{ℕ, List, ◌++◌, Some, sym, ap, subst, ◌∙◌, arith, append_assoc, length-append}
use Rattle.cmd_lines.specs.Reader.{Passing}
use Rattle.cmd_lines.specs.Skips.{Skips, IsSkipped}
use Rattle.cmd_lines.proofs.SkippedLaws.{skipped, skipped_more, text_passed}
use Rattle.cmd_lines.proofs.skip.Skipping.feed.Goals as goal

pub returns-in-Some-2 : goal.returns-in-Some-2
returns-in-Some-2 c = λ n f k.
    let i = c.lines.invariant in
    let first = c.in-Some.ensures.some in
    let line = c.in-Some.line.now in
    let after = c.in-Some.after.now in
    let now = c.end_line.new.self in
    let found = skipped now.fed now.lines (Some c.in-Some-2.stamped) in
    let some = rw c.in-Some-2.is at c.in_ok-stamped.ensures.some in
    let passed = skipped_more ((f ++ i.0) ++ line) after n found (some n (f ++ i.0) (i.3 n f k)) in
    let whole = subst (λ (t : List ℕ). IsSkipped t n found) (text_passed f i.0 line after c.lines.rest.now c.args.piece.now i.1 first.0) passed in
    subst (λ (s : Passing). IsSkipped (f ++ c.args.piece.now) n (skipped s.fed s.lines (Some c.in-Some-2.stamped))) (sym c.self.view_is) whole

pub lines-preserved : goal.lines-preserved
lines-preserved c =
    let i = c.lines.invariant in
    let first = c.in-Some.ensures.some in
    let line = c.in-Some.line.now in
    let none = rw c.in_default-2.is at c.in_ok-stamped.ensures.none in (
      i.0 ++ line,
      i.1 ∙ ap (λ (r : List ℕ). i.0 ++ r) first.0 ∙ sym (append_assoc i.0 line c.in-Some.after.now),
      omega (arith, c.in_ok-stamped.ensures.fed, i.2, length-append i.0 line),
      λ n f k. subst (λ (t : List ℕ). Skips c.end_line.new.self n t) (append_assoc f i.0 line) (none n (f ++ i.0) (i.3 n f k)),
    )

pub returns : goal.returns
returns c = λ n f k.
    let i = c.lines.invariant in
    let begun = c.in_ok-begin_line.ensures n (f ++ i.0) (i.3 n f k) in
    subst (λ (t : List ℕ). Skips c.begin_line.new.self n t) (append_assoc f i.0 c.lines.rest.now ∙ ap (λ (r : List ℕ). f ++ r) (sym i.1)) begun
