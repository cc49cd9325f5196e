use Rattle.std.proofs.Common.{sym, ◌∙◌}
use Rattle.mon_inventory.proofs.EmptyItems.{no_items, at_start}
use Rattle.mon_inventory.proofs.items.has_empty_item.Goals as goal

pub returns-then-is_empty : goal.returns-then-is_empty
returns-then-is_empty c = no_items c.args.text.now (sym c.is_empty.ensures ∙ c.if-is_empty.true)

pub loop-byte-init : goal.loop-byte-init
loop-byte-init c = at_start c.args.text.now (sym c.is_empty.ensures ∙ c.if-is_empty.false)
