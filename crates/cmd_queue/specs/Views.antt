-- What the passes of the queue know, and how each kind of step changes it.
use Rattle.std.specs.Prelude.{◌≡◌, ℕ, ◌+◌, true, false, List, [], ◌∷◌, ◌++◌}
use mathlib.Core.Option.{some}
use lib.ListN.{get_elem?}
use Rattle.cmd_queue.specs.declared.message.Message.{Message}
use Rattle.cmd_queue.specs.declared.rule.View.{View}
use Rattle.cmd_queue.specs.declared.rule.SenderMessages.{SenderMessages}
use Rattle.cmd_queue.specs.Plans.{Plan}
use Rattle.cmd_queue.specs.Messages.{Follows, IsBegun}

-- ---- of private contracts alone

-- a sender's pass: the plan, its number and what it has sent
abbrev pub sender_view : Plan → ℕ → List Message → View
sender_view plan s put = record { plan = plan; sends = true; from = s; put = put; takes = false; made = 0; taken = []; kept = [] }

-- the dispatcher's pass: the plan, the number of senders, what was taken, and the lists of senders that it keeps
abbrev pub taker_view : Plan → ℕ → List Message → List SenderMessages → View
taker_view plan n taken kept = record { plan = plan; sends = false; from = 0; put = []; takes = true; made = n; taken = taken; kept = kept }

-- the dispatcher's pass before there are senders
abbrev pub newcomer : View
newcomer = taker_view [] 0 [] []

-- a pass that was handed in
abbrev pub spent : View
spent = record { plan = []; sends = false; from = 0; put = []; takes = false; made = 0; taken = []; kept = [] }

-- split: the plan is made, before there are senders
abbrev pub with_plan : Plan → View → View
with_plan plan v = taker_view plan v.made v.taken v.kept

-- split: one sender more was made
abbrev pub one_more : View → View
one_more v = taker_view v.plan (v.made + 1) v.taken v.kept

-- join: the list of the sender w is kept
abbrev pub keeping : View → View → View
keeping v w = taker_view v.plan v.made v.taken (v.kept ++ record { sender = w.from; list = w.put } ∷ [])

-- send: x joins what was sent
abbrev pub Put : View → Message → View → Type 0
Put v x w = w ≡ sender_view v.plan v.from (v.put ++ x ∷ [])

-- receive: x joins what was taken
abbrev pub Took : View → Message → View → Type 0
Took v x w = (w ≡ taker_view v.plan v.made (v.taken ++ x ∷ []) v.kept) × Follows v.plan v.made v.taken x

-- read: each list that is kept begins with what was taken of its sender
abbrev pub AreSettled : ℕ → List Message → List SenderMessages → Type 0
AreSettled senders taken kept = (i : ℕ) (k : SenderMessages) → get_elem? kept i ≡ some k → IsBegun senders taken k.sender k.list
