-- A monitor: its inventory, its world, and whether it is broken: memory ran out in an entry.
use Rattle.std.specs.Prelude.{◌≡◌, ℕ, Bool, true, false, Option}
use Rattle.mon_inventory.specs.Configuration.{Configuration}
use Rattle.mon_inventory.specs.Facts.{IsInventory}
use Rattle.mon_engine.specs.declared.outcome.EngineFault.{EngineFault}
use Rattle.mon_engine.specs.declared.outcome.EngineFault.TheVariants.{Memory, Broken}
use Rattle.mon_engine.specs.World.{World}
use Rattle.mon_engine.specs.Sound.{IsWorld}
use Rattle.mon_engine.specs.Wakes.{IsQuiet}

-- what a monitor holds
pub record Held : Type 0 where
  pub inventory : Configuration
  pub world : World
  -- how many entries got an outcome
  pub applied : ℕ
  pub broken : Bool

-- what holds of a monitor: while it is not broken, its world is one that entries lead to, and counts those applied, and no
-- object has anything to be told before the moment that it keeps
abbrev pub IsHeld : Configuration → World → ℕ → Bool → (quiet : Option ℕ) → Type 0
IsHeld inv w applied broken quiet = IsInventory inv × (broken ≡ false → IsWorld inv w × (w.entries ≡ applied) × IsQuiet inv w quiet)

-- why an entry has no outcome
abbrev pub fault_of : (broken : Bool) → EngineFault
fault_of true = Broken
fault_of false = Memory
