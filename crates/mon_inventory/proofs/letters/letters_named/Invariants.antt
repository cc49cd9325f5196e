use Rattle.std.proofs.Common.{◌≡◌}
use Rattle.std.specs.Option.{option_copied}
use Rattle.cmd_types.specs.TextLines.{left}
use Rattle.mon_inventory.specs.Texts.{parts_left}
use Rattle.mon_inventory.specs.Line.{letters}
use Rattle.mon_inventory.specs.Seen.{named_too}
use Rattle.mon_inventory.proofs.letters.letters_named.Given as goal

abbrev pub invariant-items : goal.invariant-items
invariant-items l = named_too l.letters (parts_left 44 (option_copied l.rest)) ≡ letters l.fn.text

abbrev pub decreases-items : goal.decreases-items
decreases-items l = left (option_copied l.rest)
