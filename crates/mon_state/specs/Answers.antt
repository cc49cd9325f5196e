-- What a reader of a state's text returns.
use Rattle.std.specs.Prelude.{◌≡◌, ℕ, List, Result, Ok, Err}
use Rattle.mon_inventory.specs.Configuration.{Configuration}
use Rattle.mon_engine.specs.Held.{Held}
use Rattle.mon_engine.specs.World.{World}
use Rattle.mon_engine.specs.Saved.{IsSaved, going_on}
use Rattle.mon_state.specs.declared.fault.StateCause.TheVariants.{Memory}
use Rattle.mon_state.specs.declared.fault.StateFault.{StateFault}
use Rattle.mon_state.specs.Upgrade.{IsStateText}

-- the result is a monitor with this world, or out of memory
abbrev pub GoesOnWith : World → Result Held StateFault → Type 0
GoesOnWith w (Ok m) = m.world ≡ w
GoesOnWith w (Err f) = f.cause ≡ Memory

-- a text that is read as a saved world is read as that world, whose entries are counted anew
abbrev pub ReadsBack : Configuration → (text : List ℕ) → Result Held StateFault → Type 0
ReadsBack inv text result = (w : World) → IsSaved inv w → IsStateText inv text w → GoesOnWith (going_on w) result
