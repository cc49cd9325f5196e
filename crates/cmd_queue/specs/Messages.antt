-- Lists of messages: what each message carries, and when lists of messages are lawful.
use Rattle.std.specs.Prelude.{◌≡◌, ◌==◌, ℕ, ◌<◌, List, [], ◌∷◌, ◌++◌}
use Rattle.std.specs.List.{filter, flat_map}
use Rattle.cmd_queue.specs.declared.taken.Taken.{Taken}
use Rattle.cmd_queue.specs.declared.taken.Taken.TheVariants.{Command, Closed}
use Rattle.cmd_queue.specs.declared.message.Message.{Message}
use Rattle.cmd_queue.specs.declared.message.Message.TheVariants.{One, Many, Mark}
use Rattle.cmd_queue.specs.Lists.{IsInOrder}
use Rattle.cmd_queue.specs.Plans.{Plan, planned_of, ComeFirst, commands_in}
use Rattle.cmd_queue.specs.Rows.{row_taken}

-- what a message carries
abbrev pub carried : Message → List Taken
carried (One entry) = Command entry ∷ []
carried (Many row) = row_taken row
carried (Mark sender count) = Closed sender count ∷ []

-- what messages carry, one after another
abbrev pub all_carried : List Message → List Taken
all_carried messages = flat_map carried messages

-- ---- of private contracts alone

abbrev pub message_sender : Message → ℕ
message_sender (One entry) = entry.sender
message_sender (Many row) = row.sender
message_sender (Mark sender count) = sender

-- the messages of this sender, in order
abbrev pub messages_of : (sender : ℕ) → List Message → List Message
messages_of sender messages = filter (λ m. message_sender m == sender) messages

-- these messages carry commands with which all begins that the sender may send, where that is known
abbrev pub IsPlanned : Plan → (sender : ℕ) → List Message → Type 0
IsPlanned plan sender messages = ComeFirst (planned_of plan sender) (commands_in (all_carried messages))

-- Of each sender, the messages taken and then those that wait are all that it has sent, and they are in order
-- and of the plan
abbrev pub IsLawful : Plan → (sent : ℕ → List Message) (waiting taken : List Message) → Type 0
IsLawful plan sent waiting taken = (s : ℕ) → (messages_of s (taken ++ waiting) ≡ sent s) × IsInOrder s (all_carried (sent s)) × IsPlanned plan s (sent s)

-- the message x is of one of so many senders, and what was taken of that sender is with x in order and of the plan
abbrev pub Follows : Plan → (senders : ℕ) (taken : List Message) → Message → Type 0
Follows plan senders taken x =
    (message_sender x < senders) × IsInOrder (message_sender x) (all_carried (messages_of (message_sender x) (taken ++ x ∷ []))) × IsPlanned plan (message_sender x) (messages_of (message_sender x) (taken ++ x ∷ []))

-- what was taken of a sender begins all that it has sent, which is in order
abbrev pub IsBegun : (senders : ℕ) (taken : List Message) (sender : ℕ) (sent : List Message) → Type 0
IsBegun senders taken sender sent = (sender < senders) × ((rest : List Message) × (sent ≡ messages_of sender taken ++ rest)) × IsInOrder sender (all_carried sent)
