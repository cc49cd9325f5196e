use Rattle.std.proofs.Common.{ap, sym, ◌∙◌, ◌+◌, refl, arith, Ok}
use Rattle.cmd_types.specs.TextLines.{lines_left}
use Rattle.mon_inventory.specs.Configuration.{nothing, inventory_of, inventory}
use Rattle.mon_inventory.specs.Index.{configuration}
use Rattle.mon_inventory.proofs.Lines.{read_from, read_fine, read_fault, one_less, one_more}
use Rattle.mon_inventory.proofs.FirstFault.{fault_first, without_fault}
use Rattle.mon_inventory.proofs.parse.index_of.Goals as goal

pub loop-line-init : goal.loop-line-init
unfolding inventory_of inventory
loop-line-init c =
    let all = c.into_iter-line-iterator.ensures.into_iter_gives ∙ c.new-line-items.ensures in
    record { read = rw (all, c.new-index.ensures.nothing) refl; indexed = c.new-index.ensures.indexed; here = ap lines_left all; fine = ap Ok (sym c.new-index.ensures.nothing); few = rw all (omega arith) }

pub returns-in-Err-clause-read : goal.returns-in-Err-clause-read
returns-in-Err-clause-read c = λ other.
    sym (rw c.in-Some.ensures.steps.lines at c.loop-line.invariant.read) ∙ read_fault (c.loop-line.count + 1) (configuration c.loop-line.index) c.in-Some.line.now (lines_left c.next.new.self) _ (c.in-Err.ensures.added.0 other)

pub returns-in-Err-clause-first_fault : goal.returns-in-Err-clause-first_fault
returns-in-Err-clause-first_fault c = λ other.
    fault_first c.args.text.now _ _ (sym (rw c.in-Some.ensures.steps.lines at c.loop-line.invariant.read) ∙ read_fault (c.loop-line.count + 1) (configuration c.loop-line.index) c.in-Some.line.now (lines_left c.next.new.self) _ (c.in-Err.ensures.added.0 other))

pub loop-line-preserved : goal.loop-line-preserved
loop-line-preserved c =
    let was = c.loop-line.invariant in
    let step = c.in-Some.ensures.steps in
    let here = sym step.lines ∙ was.here in
    let few = was.few in
    let fewer = step.fewer in
    let none = c.in-Ok.ensures.added.0 in
    let made = c.in-Ok.ensures.added.1 in
    record {
      read = ap (λ k. read_from (c.loop-line.count + 1 + 1) k (lines_left c.next.new.self)) made ∙ sym (read_fine (c.loop-line.count + 1) (configuration c.loop-line.index) c.in-Some.line.now (lines_left c.next.new.self) none) ∙ rw step.lines at was.read;
      indexed = c.in-Ok.ensures.indexed;
      here = one_less _ _ _ c.loop-line.count here;
      fine = one_more 1 _ _ _ _ c.loop-line.count nothing was.fine here none ∙ ap Ok (sym made);
      few = omega arith;
    }

pub returns-in-Err-clause-memory : goal.returns-in-Err-clause-memory
unfolding inventory_of
returns-in-Err-clause-memory c = λ is.
    let lacks = c.in-Err.ensures.added.1 is in
    without_fault _ c.loop-line.count c.in-Some.line.now _ (configuration c.loop-line.index) (sym c.in-Some.ensures.steps.lines ∙ c.loop-line.invariant.here) c.loop-line.invariant.fine lacks.0 lacks.1
