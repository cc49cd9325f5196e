-- What the senders of a queue may send.
use Rattle.std.specs.Prelude.{◌≡◌, ◌==◌, ℕ, zero, suc, List, [], ◌∷◌, ◌++◌, map, Option, None, IfSome}
use Rattle.std.specs.List.{filter}
use Rattle.cmd_types.specs.declared.entry.Entry.{Entry}
use Rattle.cmd_types.specs.Spelling.{Timed}
use Rattle.cmd_queue.specs.declared.taken.Taken.{Taken}
use Rattle.cmd_queue.specs.Lists.{entries}

-- of each sender, by its number, all commands that it may ever send, where they are known
abbrev pub Plan : Type 0
Plan = List (Option (List Timed))

-- all commands that this sender may ever send, where they are known
abbrev pub planned_of : Plan → (sender : ℕ) → Option (List Timed)
planned_of [] sender = None
planned_of (commands ∷ plan) zero = commands
planned_of (commands ∷ plan) (suc sender) = planned_of plan sender

-- all that may be sent begins with these commands, where it is known
abbrev pub ComeFirst : (planned : Option (List Timed)) → List Timed → Type 0
ComeFirst planned commands = IfSome planned (λ all. (rest : List Timed) × (all ≡ commands ++ rest))

-- the commands of entries
abbrev pub stamped_of : List Entry → List Timed
stamped_of entries = map (λ (e : Entry). e.stamped) entries

-- the commands of what was sent or taken, without the marks
abbrev pub commands_in : List Taken → List Timed
commands_in list = stamped_of (entries list)

-- the commands of this sender among entries, in order
abbrev pub commands_of : (sender : ℕ) → List Entry → List Timed
commands_of sender entries = stamped_of (filter (λ e. e.sender == sender) entries)

-- The entries are of the plan: of each sender, its commands among them come first in all that it may
-- send, where that is known
abbrev pub AreOfPlan : Plan → List Entry → Type 0
AreOfPlan plan entries = (sender : ℕ) → ComeFirst (planned_of plan sender) (commands_of sender entries)
