-- When a queue is made, its sides at first, and why none is made.
use Rattle.std.specs.Prelude.{◌≡◌, ◌<◌, ◌≤◌, ℕ, List, [], length, slice_index_or}
use Rattle.cmd_queue.specs.declared.fault.QueueFault.{QueueFault}
use Rattle.cmd_queue.specs.declared.fault.QueueFault.TheVariants.{BadCapacity, BadSenders, Memory}
use Rattle.cmd_types.specs.Entries.{IsSenderCount}
use Rattle.cmd_queue.specs.declared.make.TheConstants.{MOST_CAPACITY}
use Rattle.cmd_queue.specs.Sides.{Sent, Taking, new_side}

abbrev pub IsCapacity : ℕ → Type 0
IsCapacity capacity = (0 < capacity) × (capacity ≤ MOST_CAPACITY)

-- a side for each of so many senders, in order, and the dispatcher's, of one queue in which nothing
-- was sent and nothing taken
pub record IsNewQueue (senders : ℕ) (sides : List Sent) (dispatcher : Taking) : Type 0 where
  pub one_each : length sides ≡ senders
  pub numbered : (k : ℕ) (d : Sent) → k < senders → slice_index_or sides k d ≡ new_side dispatcher.queue k
  pub known : dispatcher.senders ≡ senders
  pub nothing_taken : dispatcher.list ≡ []

-- why no queue is made, where nothing before it in the order is wrong
abbrev pub IsRefused : (capacity senders : ℕ) → QueueFault → Type 0
IsRefused capacity senders BadCapacity = IsCapacity capacity → ⊥
IsRefused capacity senders BadSenders = IsCapacity capacity × (IsSenderCount senders → ⊥)
IsRefused capacity senders Memory = IsCapacity capacity × IsSenderCount senders

-- the faults, numbered in the order of the tests
abbrev pub fault_number : QueueFault → ℕ
fault_number BadCapacity = 1
fault_number BadSenders = 2
fault_number Memory = 3
