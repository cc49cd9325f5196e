-- The state of a reader of pieces: the bytes that it was fed, and the items that it has given.
use Rattle.std.specs.Prelude.{◌≡◌, ℕ, List, [], ◌∷◌, ◌++◌, length, take}
use Rattle.cmd_lines.specs.declared.phase.Phase.{Phase}
use Rattle.cmd_lines.specs.declared.phase.Phase.TheVariants.{Open, Finished, CutOff}
use Rattle.cmd_lines.specs.declared.item.Item.{Item}
use Rattle.cmd_lines.specs.declared.item.Item.TheVariants as item
use Rattle.cmd_lines.specs.declared.item.Put.{Put}
use Rattle.cmd_lines.specs.declared.item.Put.TheVariants as put
use Rattle.cmd_types.specs.Spelling.{Timed}
use Rattle.cmd_lines.specs.Items.{items_from, known}
use Rattle.cmd_lines.specs.Unfinished.{last_line, most_held}

-- what a reader holds: what waits, as its items are known by, the bytes of its last line that are kept, the number of its first line, how many bytes were fed, and whether the text ended
pub record Waiting : Type 0 where
  pub pending : List ℕ
  pub held : List ℕ
  pub number : ℕ
  pub fed : ℕ
  pub phase : Phase

-- what a reader that skips commands knows: its reader of the line that is not finished, the commands that are left to skip, and how many bytes and whole lines were fed
pub record Passing : Type 0 where
  pub waiting : Waiting
  pub left : ℕ
  pub fed : ℕ
  pub lines : ℕ

-- the items given, and then the items of the bytes that wait, are those of the bytes fed; while it is open, however the
-- text grows and ends
abbrev pub Continues : Phase → ℕ → List ℕ → List ℕ → List Item → Type 0
Continues Open number pending f g = (p : Phase) (more : List ℕ) → known p (f ++ more) ≡ g ++ items_from p number (pending ++ more)
Continues Finished number pending f g = known Finished f ≡ g ++ items_from Finished number pending
Continues CutOff number pending f g = known CutOff f ≡ g ++ items_from CutOff number pending

-- the item that comes next is a command, which its line spells
abbrev pub IsNextCommand : Phase → List ℕ → List Item → Type 0
IsNextCommand phase f g = (t : Timed) × (others : List Item) × (known phase f ≡ g ++ item.Command t ∷ others)

-- the reader was fed the bytes f and has given the items g; while it is open, it holds the first bytes of their last line
abbrev pub Stands : Waiting → List ℕ → List Item → Type 0
Stands w f g = (w.fed ≡ length f) × Continues w.phase w.number w.pending f g × (w.phase ≡ Open → w.held ≡ take most_held (last_line f))

-- the item is a command, which was appended to those that were there; or a refused line, and nothing was appended
abbrev pub IsPut : Put → Item → List Timed → List Timed → Type 0
IsPut put.Command i before after = (t : Timed) × (i ≡ item.Command t) × (after ≡ before ++ t ∷ [])
IsPut (put.Refused n f) i before after = (i ≡ item.Refused n f) × (after ≡ before)
