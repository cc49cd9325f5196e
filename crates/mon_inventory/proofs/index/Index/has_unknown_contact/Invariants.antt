use Rattle.std.proofs.Common.{◌≡◌, is_none}
use Rattle.std.specs.List.{list_any}
use Rattle.std.specs.Option.{option_copied}
use Rattle.cmd_types.specs.TextLines.{left}
use Rattle.mon_inventory.specs.Texts.{parts_left}
use Rattle.mon_inventory.specs.Lookups.{contact_of}
use Rattle.mon_inventory.specs.Configuration.{has_unknown_contact}
use Rattle.mon_inventory.specs.Index.{configuration}
use Rattle.mon_inventory.proofs.index.Index.has_unknown_contact.Given as goal

abbrev pub invariant-items : goal.invariant-items
invariant-items l = list_any (λ name. is_none (contact_of l.self.contacts.items name)) (parts_left 44 (option_copied l.rest)) ≡ has_unknown_contact (configuration l.self) l.fn.text

abbrev pub decreases-items : goal.decreases-items
decreases-items l = left (option_copied l.rest)
