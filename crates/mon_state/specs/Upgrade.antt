-- Texts of version 1, which say neither the moments of objects nor who is owed the end of a problem: what they are
-- taken to say, and the texts that are read as a world.
use Rattle.std.specs.Prelude.{◌≡◌, ◌⊎◌, ℕ, if◌then◌else◌, List, Some, None, map}
use Rattle.mon_checks.specs.declared.status.Status.{Status}
use Rattle.mon_inventory.specs.Configuration.{Configuration}
use Rattle.mon_engine.specs.declared.object.Object.{Object}
use Rattle.mon_engine.specs.declared.object.Moments.{Moments}
use Rattle.mon_engine.specs.Objects.{is_of_hard_problem}
use Rattle.mon_engine.specs.Owed.{presumed}
use Rattle.mon_engine.specs.World.{World}
use Rattle.mon_state.specs.declared.version.StateVersion.TheVariants.{One, Two}
use Rattle.mon_state.specs.State.{text_of}

-- the moments of an object in this status: it was never checked, and is as it is since the clock
abbrev pub upgraded : (clock : ℕ) → Status → Moments
upgraded clock status = record { checked = None; changed = clock; since = if is_of_hard_problem status then Some clock else None }

-- the object with these moments
abbrev pub upgraded_object : (clock : ℕ) → Object → Object
upgraded_object clock o = record o { moments = upgraded clock o.status }

-- the world that a text of version 1 is taken to say under this inventory: that of its lines, with these moments of
-- each object, and with those who are presumed to be owed the end of its problem
unfoldable pub upgrade : Configuration → World → World
upgrade inv w = record w { objects = map (upgraded_object w.clock) w.objects; owed = presumed inv w.objects }

-- the text is read as this world: it is written of it, or it is one of version 1, and the world is what an upgrade makes
abbrev pub IsStateText : Configuration → (text : List ℕ) → World → Type 0
IsStateText inv text w = (text ≡ text_of Two inv w) ⊎ ((text ≡ text_of One inv w) × (upgrade inv w ≡ w))
