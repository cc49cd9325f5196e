-- What the seats of a board know, and the fact that each step on its word shows.
use Rattle.std.specs.Prelude.{◌≡◌, ℕ, true, false, List, [], ◌∷◌, length}
use mathlib.Core.Option.{some}
use lib.ListN.{get_elem?}
use Rattle.atomic_table.specs.Table.{Me}
use Rattle.cmd_types.specs.declared.entry.Entry.{Entry}
use Rattle.mon_inventory.specs.Configuration.{Configuration, nothing}
use Rattle.mon_engine.specs.Figures.{figures}
use Rattle.mon_engine.specs.Step.{meaning}
use Rattle.cmd_dispatch.specs.declared.board_rule.SeatView.{SeatView}
use Rattle.cmd_dispatch.specs.Delivered.{BeginsWith}
use Rattle.cmd_dispatch.specs.Word.{IsSmall, word}

-- ---- of private contracts alone

-- the writer knows what it has published, and keeps what gathered readers had seen
abbrev pub writer_view : Configuration → List Entry → List (List Entry) → SeatView
writer_view inv published kept = record { inventory = inv; writes = true; published = published; kept = kept; reads = false; seen = [] }

-- a reader knows what it has seen
abbrev pub reader_view : Configuration → List Entry → SeatView
reader_view inv seen = record { inventory = inv; writes = false; published = []; kept = []; reads = true; seen = seen }

-- a seat that was gathered knows nothing
abbrev pub spent : SeatView
spent = record { inventory = nothing; writes = false; published = []; kept = []; reads = false; seen = [] }

-- the writer keeps what w's reader had seen
abbrev pub keeping : SeatView → SeatView → SeatView
keeping v w = writer_view v.inventory v.published (w.seen ∷ v.kept)

-- the word packs the figures of the monitor to which this list of entries leads
pub record Shows (inv : Configuration) (list : List Entry) (found : ℕ) : Type 0 where
  pub word_is : found ≡ word (figures (meaning inv list))
  pub small : IsSmall (figures (meaning inv list))
  pub entries : (figures (meaning inv list)).entries ≡ length list

abbrev pub ArePrefixes : List (List Entry) → List Entry → Type 0
ArePrefixes kept list = (i : ℕ) (front : List Entry) → get_elem? kept i ≡ some front → BeginsWith list front

abbrev pub Sat : Type 0
Sat = Me ℕ SeatView

-- ---- what a step shows

-- the list was published
abbrev pub Published : List Entry → Sat → Sat → Type 0
Published list m m' = m' ≡ (writer_view m.0.inventory list m.0.kept, m.1)

-- the reader has seen a list that begins with the list seen before, and the word that it found packs the figures of
-- this list
abbrev pub Looked : Sat → ℕ → Sat → Type 0
Looked m found m' =
    (list : List Entry) × (m' ≡ (reader_view m.0.inventory list, m.1)) × BeginsWith list m.0.seen × Shows m.0.inventory list found

-- each kept list is a prefix of the published one
abbrev pub Checked : Sat → Sat → Type 0
Checked m m' = (m' ≡ m) × ArePrefixes m.0.kept m.0.published
