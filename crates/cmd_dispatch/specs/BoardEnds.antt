-- The views of a board's writer and readers in contracts.
use Rattle.std.specs.Prelude.{◌≡◌, ◌<◌, ℕ, List, [], true, Option, Some, None}
use Rattle.atomic_table.specs.Seated.{TableId}
use Rattle.atomic_table.specs.declared.shared.Seat.{Seat}
use Rattle.cmd_types.specs.declared.entry.Entry.{Entry}
use Rattle.mon_inventory.specs.Configuration.{Configuration, nothing}
use Rattle.cmd_dispatch.specs.declared.board_rule.SeatView.{SeatView}

-- the writer's end: which board, of which inventory, and what it has published
pub record Writing : Type 0 where
  pub board : TableId
  pub inventory : Configuration
  pub published : List Entry

-- a reader's end: which board, of which inventory, and what it has seen
pub record Reading : Type 0 where
  pub board : TableId
  pub inventory : Configuration
  pub seen : List Entry

abbrev pub Place : Type 0
Place = Seat ℕ SeatView

-- the seat is at this table, and holds no slot
abbrev pub IsAt : TableId → Place → Type 0
IsAt table p = (p.table_id ≡ table) × (0 < table.words) × (p.me.1 ≡ [])

abbrev pub IsWriter : TableId → Place → Type 0
IsWriter table p = IsAt table p × (p.me.0.writes ≡ true)

abbrev pub IsReader : TableId → Place → Type 0
IsReader table p = IsAt table p × (p.me.0.reads ≡ true)

abbrev pub IsWriterAt : TableId → Option Place → Type 0
IsWriterAt table (Some p) = IsWriter table p
IsWriterAt table None = ⊥

-- ---- of private contracts alone

-- a writer's seat; only a run that publishes takes it out
abbrev pub writing_of : Place → Writing
writing_of p = record { board = p.table_id; inventory = p.me.0.inventory; published = p.me.0.published }

abbrev pub reading_of : Place → Reading
reading_of p = record { board = p.table_id; inventory = p.me.0.inventory; seen = p.me.0.seen }

abbrev pub writing_at : TableId → Option Place → Writing
writing_at table (Some p) = writing_of p
writing_at table None = record { board = table; inventory = nothing; published = [] }
