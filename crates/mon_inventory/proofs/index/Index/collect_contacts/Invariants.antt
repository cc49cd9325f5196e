use Rattle.std.proofs.Common.{◌≡◌}
use Rattle.std.specs.Option.{option_copied}
use Rattle.cmd_types.specs.TextLines.{left}
use Rattle.mon_inventory.specs.Texts.{parts_left}
use Rattle.mon_inventory.specs.Configuration.{contacts_named}
use Rattle.mon_inventory.specs.Index.{configuration}
use Rattle.mon_inventory.proofs.Contacts.{gathered}
use Rattle.mon_inventory.proofs.index.Index.collect_contacts.Given as goal

abbrev pub invariant-names : goal.invariant-names
invariant-names l = gathered l.self.contacts.items l.contacts.keys (parts_left 44 (option_copied l.rest)) ≡ contacts_named (configuration l.self) l.fn.text

abbrev pub decreases-names : goal.decreases-names
decreases-names l = left (option_copied l.rest)
