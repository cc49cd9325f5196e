-- When the text of an inventory is a new one, and the line that says so.
use Rattle.std.specs.Prelude.{◌≡◌, ◌≢◌, ◌⊎◌, ◌+◌, ◌-◌, ◌==◌, ℕ, List, [], ◌∷◌, ◌++◌, length, Option, Some, None, Ok, slice_get, if◌then◌else◌}
use Rattle.std.specs.List.{count_by}
use Rattle.std.specs.Option.{is_some}
use Rattle.cmd_types.specs.TextLines.{split_lines}
use Rattle.mon_inventory.specs.declared.fault.Cause.TheVariants.{BadForm}
use Rattle.mon_inventory.specs.declared.fault.InventoryFault.{InventoryFault}
use Rattle.mon_inventory.specs.declared.records.ObjectSpec.{ObjectSpec}
use Rattle.mon_inventory.specs.Read.{IsFirstFault}
use Rattle.mon_inventory.specs.Configuration.{Configuration, inventory}
use Rattle.cmd_answer.specs.declared.follow_line.FollowLine.{FollowLine}
use Rattle.cmd_answer.specs.declared.follow_line.FollowLine.TheVariants.{NewInventory}

-- the text with a line feed after it, unless `last`, the byte in which it ends, is one
abbrev pub ended_by : (last : Option ℕ) → (text : List ℕ) → List ℕ
ended_by None text = text
ended_by (Some x) text = if x == 10 then text else text ++ 10 ∷ []

-- the text with a line feed at the end of its last line
abbrev pub whole_lines_of : List ℕ → List ℕ
whole_lines_of text = ended_by (slice_get text (length text - 1)) text

-- the text differs from that of the run, has no fault, and has an object
abbrev pub IsNewInventory : (current text : List ℕ) → Configuration → Type 0
IsNewInventory current text inv = (text ≢ current) × (inventory text ≡ Ok inv) × (inv.objects ≢ [])

-- the fault is that of the first faulty line; or the text has no fault and no object, and the fault is in its first
-- line
abbrev pub IsInventoryFault : List ℕ → InventoryFault → Type 0
IsInventoryFault text f = IsFirstFault (split_lines text) f.line f.cause ⊎ ((inv : Configuration) × (inventory text ≡ Ok inv) × (inv.objects ≡ []) × (f ≡ record { line = 1; cause = BadForm }))

-- the line has the number of the hosts and the number of the services among these objects
abbrev pub IsLineOf : List ObjectSpec → FollowLine → Type 0
IsLineOf objects (NewInventory hosts services) = (hosts + services ≡ length objects) × (services ≡ count_by (λ o. is_some o.service) objects)
IsLineOf objects _ = ⊥
