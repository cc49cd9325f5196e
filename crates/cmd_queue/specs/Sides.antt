-- What contracts see of the ends of a queue.
use Rattle.std.specs.Prelude.{◌≡◌, ◌<◌, length, ℕ, Bool, true, false, List, [], ◌∷◌, ◌++◌}
use Rattle.atomic_table.specs.Seated.{TableId}
use Rattle.atomic_table.specs.declared.badge.Badge.{Badge}
use Rattle.crossbeam_channel.specs.declared.flavors.array.Key.{Key}
use Rattle.cmd_types.specs.Entries.{entries_after}
use Rattle.cmd_types.specs.Spelling.{Timed}
use Rattle.cmd_queue.specs.declared.taken.Taken.{Taken}
use Rattle.cmd_queue.specs.declared.taken.Taken.TheVariants.{Command, Closed}
use Rattle.cmd_queue.specs.declared.message.Message.{Message}
use Rattle.cmd_queue.specs.Plans.{Plan}
use Rattle.cmd_queue.specs.Lists.{of_sender, all_sent, is_closed, IsInOrder, BeginsWith}

-- which queue it is: it tells the ends of one from those of another, and has the plan of its senders
pub record QueueId : Type 0 where
  pub table : TableId
  pub key : Badge (Key Message)
  pub plan : Plan

-- the side of a sender that has not closed: its number and what it has sent
pub record Sent : Type 0 where
  pub queue : QueueId
  pub sender : ℕ
  pub list : List Taken

-- the end of a sender that closed or left: also whether it sent its close mark
pub record Ended : Type 0 where
  pub queue : QueueId
  pub sender : ℕ
  pub list : List Taken
  pub marked : Bool

-- the dispatcher's side: the number of senders and what was taken
pub record Taking : Type 0 where
  pub queue : QueueId
  pub senders : ℕ
  pub list : List Taken

-- what `settle` keeps: of which queue, the number of senders and what was taken
pub record Settlement : Type 0 where
  pub queue : QueueId
  pub senders : ℕ
  pub list : List Taken

-- ---- what the calls make of them

-- the side of this sender before it has sent anything
abbrev pub new_side : QueueId → (sender : ℕ) → Sent
new_side queue sender = record { queue = queue; sender = sender; list = [] }

-- the side after it sent the command at this place
abbrev pub with_command : Sent → (place : ℕ) → Timed → Sent
with_command s place stamped = record { queue = s.queue; sender = s.sender; list = s.list ++ Command (record { sender = s.sender; place = place; stamped = stamped }) ∷ [] }

-- the side after it sent these commands at the next places
abbrev pub with_commands : Sent → List Timed → Sent
with_commands s commands = record { queue = s.queue; sender = s.sender; list = s.list ++ all_sent (entries_after s.sender (length s.list) commands) }

-- the end of a sender after its close mark, which has the number of its commands
abbrev pub with_mark : Sent → Ended
with_mark s = record { queue = s.queue; sender = s.sender; list = s.list ++ Closed s.sender (length s.list) ∷ []; marked = true }

-- the end of a sender that leaves without a mark
abbrev pub without_mark : Sent → Ended
without_mark s = record { queue = s.queue; sender = s.sender; list = s.list; marked = false }

-- the dispatcher's side after it took x
abbrev pub with_taken : Taking → Taken → Taking
with_taken d x = record { queue = d.queue; senders = d.senders; list = d.list ++ x ∷ [] }

-- the dispatcher's side after it took all these
abbrev pub with_all_taken : Taking → List Taken → Taking
with_all_taken d xs = record { queue = d.queue; senders = d.senders; list = d.list ++ xs }

-- What was taken of a sender whose end came back begins what it has sent, which is in order, and is
-- the whole of it where its close mark was taken
pub record IsSettled (dispatcher : Taking) (end : Ended) : Type 0 where
  pub known : end.sender < dispatcher.senders
  pub in_order : IsInOrder end.sender end.list
  pub begins : BeginsWith end.list (of_sender end.sender dispatcher.list)
  pub whole : is_closed end.sender dispatcher.list ≡ true → of_sender end.sender dispatcher.list ≡ end.list
