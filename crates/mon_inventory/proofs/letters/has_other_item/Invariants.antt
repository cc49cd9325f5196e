use Rattle.std.proofs.Common.{◌≡◌, not}
use Rattle.std.specs.List.{list_any}
use Rattle.std.specs.Option.{option_copied}
use Rattle.mon_inventory.specs.Texts.{parts_left}
use Rattle.mon_inventory.specs.Seen.{options_of}
use Rattle.mon_inventory.specs.Line.{has_item, has_other_item}
use Rattle.cmd_types.specs.TextLines.{left}
use Rattle.mon_inventory.proofs.letters.has_other_item.Given as goal

abbrev pub invariant-items : goal.invariant-items
invariant-items l = list_any (λ item. not (has_item item (options_of l.fn.allowed))) (parts_left 44 (option_copied l.rest)) ≡ has_other_item (options_of l.fn.allowed) l.fn.text

abbrev pub decreases-items : goal.decreases-items
decreases-items l = left (option_copied l.rest)
