-- The list that a run publishes as it goes.
use Rattle.std.specs.Prelude.{◌≡◌, ◌⊎◌, List, [], ◌∷◌, ◌++◌, Option, Some}
use Rattle.atomic_table.specs.Seated.{TableId}
use Rattle.cmd_types.specs.declared.entry.Entry.{Entry}
use Rattle.cmd_run.specs.declared.fault.RunCause.{RunCause}
use Rattle.cmd_run.specs.declared.fault.RunCause.TheVariants.{Memory}
use Rattle.cmd_dispatch.specs.Delivered.{BeginsWith}

-- where memory ran out, the last entry of the journal may not be published
abbrev pub IsLastWanting : (List Entry → Type 0) → (journal : List Entry) → Type 0
IsLastWanting shows journal = shows journal ⊎ ((published : List Entry) × (last : Entry) × shows published × (journal ≡ published ++ last ∷ []))

-- the published list after a run that failed by this cause, or did not fail
abbrev pub IsShown : (List Entry → Type 0) → Option RunCause → (journal : List Entry) → Type 0
IsShown shows (Some Memory) journal = IsLastWanting shows journal
IsShown shows _ journal = shows journal

-- after a fault the published list is the journal, or, where memory ran out, shorter by one entry at most
abbrev pub IsBehind : RunCause → (journal published : List Entry) → Type 0
IsBehind cause journal published = IsShown (λ list. published ≡ list) (Some cause) journal

-- ---- of private contracts alone

-- the table that stands for a run without a board
abbrev pub no_board : TableId
no_board = record { words = 0; slots = 0; views_name = 0; atom = 0; block = 0; offset = 0; slot_names = [] }

-- a prefix of this list was published
abbrev pub MayShow : (List Entry → Type 0) → List Entry → Type 0
MayShow shows list = (was : List Entry) × shows was × BeginsWith list was
