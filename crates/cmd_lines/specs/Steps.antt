-- One step of a reader over the bytes that wait.
use Rattle.std.specs.Prelude.{◌≡◌, ℕ, ◌+◌, ◌≤◌, ◌<◌, List, [], ◌∷◌, ◌++◌, length}
use Rattle.cmd_types.specs.Bytes.{Lacks, without_returns}
use Rattle.cmd_lines.specs.declared.phase.Phase.{Phase}
use Rattle.cmd_lines.specs.declared.item.Item.{Item}
use Rattle.cmd_lines.specs.declared.step.Step.TheVariants as steps
use Rattle.cmd_lines.specs.Items.{item_of, items_from}
use Rattle.cmd_lines.specs.Unfinished.{last_line}

-- a line that is not empty: without a line feed, and without a carriage return at its end
pub record IsWhole (line : List ℕ) : Type 0 where
  pub one : Lacks 10 line
  pub ended : without_returns line ≡ line
  pub some : 0 < length line

-- ---- of private contracts alone

-- from the bytes xs at line n the items gs come first, and then those of ys from line m on, however the text grows
pub record Passes (n : ℕ) (xs : List ℕ) (gs : List Item) (m : ℕ) (ys : List ℕ) : Type 0 where
  pub front : List ℕ
  pub parts : xs ≡ front ++ ys
  pub onward : n ≤ m
  pub counted : m + length ys ≤ n + length xs
  pub last : last_line xs ≡ last_line ys
  pub items : (e : Phase) (more : List ℕ) → items_from e n (xs ++ more) ≡ gs ++ items_from e m (ys ++ more)

abbrev pub GoesOn : ℕ → List ℕ → steps.the_data → Type 0
GoesOn n xs (steps.Line line rest m) = IsWhole line.now × Passes n xs (item_of m line.now ∷ []) (m + 1) rest.now × (n ≤ m)
GoesOn n xs (steps.Rest rest m) = Lacks 10 rest.now × Passes n xs [] m rest.now
