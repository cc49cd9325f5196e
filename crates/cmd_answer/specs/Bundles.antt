-- A bundle: an input with an inventory and feeds.
use Rattle.std.specs.Prelude.{◌≡◌, ℕ, List, ◌∷◌, length, Ok}
use Rattle.cmd_types.specs.Entries.{IsSenderCount}
use Rattle.mon_inventory.specs.Configuration.{Configuration, inventory}
use Rattle.cmd_answer.specs.Parts.{parts}

-- the parts of the input are the text of this inventory and these feeds, whose number is one that a run may have
pub record IsBundle (input : List ℕ) (configuration : Configuration) (feeds : List (List ℕ)) : Type 0 where
  pub inventory_text : List ℕ
  pub parts_are : parts input ≡ inventory_text ∷ feeds
  pub count : IsSenderCount (length feeds)
  pub configured : inventory inventory_text ≡ Ok configuration
