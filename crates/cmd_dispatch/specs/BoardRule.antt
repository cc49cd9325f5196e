-- The rule of a board: between any two steps its word is that of the published list, which begins with the list that
-- each reader has seen.
use Rattle.std.specs.Prelude.{◌≡◌, ℕ, true, List, [], ◌∷◌}
use mathlib.Core.Option.{some}
use lib.ListN.{get_elem?}
use Rattle.atomic_table.specs.Table.{State}
use Rattle.cmd_types.specs.declared.entry.Entry.{Entry}
use Rattle.mon_inventory.specs.Configuration.{Configuration}
use Rattle.cmd_dispatch.specs.declared.board_rule.SeatView.{SeatView}
use Rattle.cmd_dispatch.specs.Delivered.{BeginsWith}
use Rattle.cmd_dispatch.specs.BoardViews.{ArePrefixes, Shows}

-- ---- of private contracts alone

-- there is one writer, and it knows what is published
abbrev pub FitsWriter : Configuration → ℕ → List Entry → ℕ → SeatView → Type 0
FitsWriter inv writer published seat v = v.writes ≡ true → (seat ≡ writer) × (v.inventory ≡ inv) × (v.published ≡ published) × ArePrefixes v.kept published

abbrev pub FitsReader : Configuration → List Entry → SeatView → Type 0
FitsReader inv published v = v.reads ≡ true → (v.inventory ≡ inv) × BeginsWith published v.seen

abbrev pub Fits : Configuration → ℕ → List Entry → ℕ → SeatView → Type 0
Fits inv writer published seat v = FitsWriter inv writer published seat v × FitsReader inv published v

pub record Ruled (inv : Configuration) (s : State ℕ SeatView) : Type 0 where
  pub writer : ℕ
  pub published : List Entry
  pub found : ℕ
  pub words : s.words ≡ found ∷ []
  pub shows : Shows inv published found
  pub fits : (seat : ℕ) (v : SeatView) → get_elem? s.views seat ≡ some v → Fits inv writer published seat v
