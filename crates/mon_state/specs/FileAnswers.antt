-- What a reader of the file `state` returns.
use Rattle.std.specs.Prelude.{◌≡◌, ◌≢◌, ℕ, List, Result, Ok, MatchResult}
use Rattle.mon_inventory.specs.declared.fault.Cause.TheVariants as cause
use Rattle.mon_inventory.specs.Configuration.{Configuration, inventory}
use Rattle.mon_engine.specs.World.{World}
use Rattle.mon_engine.specs.Saved.{IsSaved, going_on}
use Rattle.mon_state.specs.declared.fault.StateCause.TheVariants.{Memory}
use Rattle.mon_state.specs.declared.file.StateFile.{StateFile}
use Rattle.mon_state.specs.declared.file.FileFault.{FileFault}
use Rattle.mon_state.specs.declared.file.FileFault.TheVariants.{NoMark, Inventory, State}
use Rattle.mon_state.specs.Feeds.{Feeds, AreWritable}
use Rattle.mon_state.specs.File.{IsFileText, IsHead}

-- the fault is out of memory
abbrev pub IsWantOfMemory : FileFault → Type 0
IsWantOfMemory NoMark = ⊥
IsWantOfMemory (Inventory f) = f.cause ≢ cause.Memory → ⊥
IsWantOfMemory (State f) = f.cause ≡ Memory

-- a text of an inventory, a saved world and its feeds is read as these, the world's entries counted anew; or memory
-- runs out
abbrev pub IsReadBack : (text : List ℕ) → Result StateFile FileFault → Type 0
IsReadBack text read = (given : List ℕ) (inv : Configuration) (w : World) (feeds : Feeds) → IsHead given → inventory given ≡ Ok inv → IsSaved inv w → AreWritable feeds → IsFileText text given inv w feeds
    → MatchResult read (λ f. (f.given.now ≡ given) × (f.monitor.inventory ≡ inv) × (f.monitor.world ≡ going_on w) × (f.feeds ≡ feeds)) IsWantOfMemory
