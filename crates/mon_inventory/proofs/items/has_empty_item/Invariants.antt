use Rattle.std.proofs.Common.{◌≡◌, drop}
use Rattle.mon_inventory.specs.Texts.{has_empty_item}
use Rattle.mon_inventory.proofs.EmptyItems.{is_any_empty}
use Rattle.mon_inventory.proofs.items.has_empty_item.Given as goal

abbrev pub invariant-loop-byte : goal.invariant-loop-byte
invariant-loop-byte l = is_any_empty l.is_item_empty (drop l.byte-index l.text) ≡ has_empty_item l.text
