-- The number of records of each kind in an inventory, and the line with these numbers.
use Rattle.std.specs.Prelude.{◌≡◌, ◌+◌, ℕ, List, [], ◌∷◌, ◌++◌, length, codes}
use Rattle.std.specs.List.{count_by}
use Rattle.std.specs.Option.{is_some}
use Rattle.std.specs.Fmt.{decimal}
use Rattle.mon_inventory.specs.Configuration.{Configuration}
use Rattle.cmd_answer.specs.declared.counts.InventoryCounts.{InventoryCounts}

-- the counts of the records of each kind: an object with a service name is a service, any other object a host
pub record AreCountsOf (inv : Configuration) (c : InventoryCounts) : Type 0 where
  pub contacts : c.contacts ≡ length inv.contacts
  pub objects : c.hosts + c.services ≡ length inv.objects
  pub services : c.services ≡ count_by (λ o. is_some o.service) inv.objects
  pub escalations : c.escalations ≡ length inv.escalations

-- the line, with its line feed
abbrev pub counts_line : InventoryCounts → List ℕ
counts_line c =
    codes "inventory: " ++ (decimal c.contacts ++ (codes " contacts, " ++ (decimal c.hosts ++ (codes " hosts, " ++ (decimal c.services ++ (codes " services, " ++ (decimal c.escalations ++ (codes " escalations" ++ 10 ∷ []))))))))
