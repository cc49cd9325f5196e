use Rattle.std.proofs.Common.{refl, sym, ◌∙◌}
use Rattle.mon_inventory.proofs.Said.{said_here, said_later, said_nowhere}
use Rattle.mon_inventory.proofs.index.Index.said_of.Goals as goal

pub loop-option-init : goal.loop-option-init
loop-option-init c = refl

pub returns-then-eq : goal.returns-then-eq
returns-then-eq c =
    rw (← c.deref-option-items.ensures.value) (said_here c.deref-option-items.result.now c.loop-option.option-index c.args.name.now c.loop-option.invariant c.option-item.result c.loop-option-test.true c.option-item.is (rw (← c.as_bytes.ensures) (sym c.eq.ensures ∙ c.if-eq.true)))

pub loop-option-preserved : goal.loop-option-preserved
loop-option-preserved c =
    said_later c.deref-option-items.result.now c.loop-option.option-index c.args.name.now c.loop-option.invariant c.option-item.result c.loop-option-test.true c.option-item.is (rw (← c.as_bytes.ensures) (sym c.eq.ensures ∙ c.if-eq.false))

pub returns : goal.returns
returns c = rw (← c.deref-option-items.ensures.value) (said_nowhere c.deref-option-items.result.now c.loop-option.option-index c.args.name.now c.loop-option.invariant c.loop-option-test.false)
