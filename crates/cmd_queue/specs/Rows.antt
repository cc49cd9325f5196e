-- Commands of one sender in a row, as one message carries them.
use Rattle.std.specs.Prelude.{ℕ, ◌+◌, ◌<◌, ◌≤◌, ◌^◌, List}
use Rattle.cmd_types.specs.Spelling.{Timed}
use Rattle.cmd_types.specs.Entries.{entries_after}
use Rattle.cmd_queue.specs.declared.make.TheConstants.{MOST_TOGETHER}
use Rattle.cmd_queue.specs.declared.taken.Taken.{Taken}
use Rattle.cmd_queue.specs.Lists.{all_sent}

-- commands of a sender, after so many others of it
pub record Row : Type 0 where
  pub sender : ℕ
  pub before : ℕ
  pub commands : List Timed

-- its entries, at the places after the others
abbrev pub row_taken : Row → List Taken
row_taken row = all_sent (entries_after row.sender row.before row.commands)

-- the last place is a number of 64 bits
abbrev pub HasRoom : (before count : ℕ) → Type 0
HasRoom before count = before + count < 2 ^ 64

-- ---- of private contracts alone

-- HasRoom, and there are as many commands as a message may have
abbrev pub IsBatch : (before count : ℕ) → Type 0
IsBatch before count = (0 < count) × (count ≤ MOST_TOGETHER) × HasRoom before count
