-- The file `state` of a state directory.
use Rattle.std.specs.Prelude.{◌≡◌, ◌≢◌, ℕ, List, [], ◌∷◌, ◌++◌, codes}
use Rattle.mon_inventory.specs.Configuration.{Configuration}
use Rattle.mon_engine.specs.World.{World}
use Rattle.mon_state.specs.Feeds.{Feeds, feeds_text}
use Rattle.mon_state.specs.State.{state_text}
use Rattle.mon_state.specs.Upgrade.{IsStateText}

-- the line after the inventory
abbrev pub mark : List ℕ
mark = codes "---"

-- the text that is written: the text of the inventory, the line ---, the feeds, and the state of the world
abbrev pub file_text : (given : List ℕ) → Configuration → World → Feeds → List ℕ
file_text given inv w feeds = given ++ (mark ++ 10 ∷ (feeds_text feeds ++ state_text inv w))

-- the text is read as a file `state` of this inventory, these feeds and this world
abbrev pub IsFileText : (text given : List ℕ) → Configuration → World → Feeds → Type 0
IsFileText text given inv w feeds = (state : List ℕ) × (text ≡ given ++ (mark ++ 10 ∷ (feeds_text feeds ++ state))) × IsStateText inv state w

-- `line`, which has no line feed, and the text after it are whole lines, none of which is the mark
abbrev pub HasNoMark : (line : List ℕ) → List ℕ → Type 0
HasNoMark line [] = line ≡ []
HasNoMark line (x ∷ xs) = (x ≡ 10 → (line ≢ mark) × HasNoMark [] xs) × (x ≢ 10 → HasNoMark (line ++ x ∷ []) xs)

-- whole lines, none of which is the mark
abbrev pub IsHead : List ℕ → Type 0
IsHead given = HasNoMark [] given
