-- The parts of a world that a state's text has, and those that it lacks: laws over the definition.
use Rattle.std.specs.Prelude.{◌≡◌, List, ℕ}
use Rattle.mon_inventory.specs.Configuration.{Configuration}
use Rattle.mon_inventory.specs.Facts.{IsInventory}
use Rattle.mon_engine.specs.World.{World}
use Rattle.mon_engine.specs.Saved.{IsSaved, going_on}
use Rattle.mon_engine.specs.SavedLaws.{resumed}
use Rattle.mon_state.specs.State.{state_text}
use Rattle.mon_state.specs.Upgrade.{IsStateText}

-- it has neither the lists of rejections and notices, nor the point from which entries are counted
abbrev pub AResumedWorldIsWrittenTheSame : Type 0
AResumedWorldIsWrittenTheSame = (inv : Configuration) (w : World) → state_text inv (resumed w) ≡ state_text inv w

-- it has all else: two worlds as which one text is read resume as the same world
abbrev pub ATextIsOfOneWorld : Type 0
ATextIsOfOneWorld = (inv : Configuration) (text : List ℕ) (v w : World) → IsInventory inv → IsSaved inv v → IsSaved inv w → IsStateText inv text v → IsStateText inv text w → going_on v ≡ going_on w
