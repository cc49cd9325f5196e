-- The contents of the ends of a queue, and what contracts see of them.
use Rattle.std.specs.Prelude.{◌≡◌, ◌<◌, ℕ, Bool, List, true, false, length, take, ◌-◌, ◌≤◌, ◌++◌, [], ◌∷◌, slice_index_or}
use Rattle.crossbeam_channel.specs.declared.flavors.array.ruled.Sending.{Sending}
use Rattle.crossbeam_channel.specs.declared.flavors.array.ruled.Receiving.{Receiving}
use Rattle.crossbeam_channel.specs.declared.flavors.array.Rows.{Rows}
use Rattle.crossbeam_channel.specs.Claims.{Pass, view, IsSeatAt}
use Rattle.crossbeam_channel.specs.Ends.{sends_on, receives_on}
use Rattle.atomic_table.specs.declared.badge.Badge.{Badge}
use Rattle.crossbeam_channel.specs.declared.flavors.array.Key.{Key}
use Rattle.crossbeam_channel.specs.declared.flavors.array.Doing.{Doing}
use Rattle.cmd_queue.specs.declared.taken.Taken.{Taken}
use Rattle.cmd_queue.specs.declared.message.Message.{Message}
use Rattle.cmd_queue.specs.declared.tally.Tally.{Tally}
use Rattle.cmd_queue.specs.declared.rule.View.{View}
use Rattle.cmd_queue.specs.Lists.{of_sender, entries, has_mark, is_closed, IsInOrder, IsNext, AreNext}
use Rattle.cmd_queue.specs.Plans.{Plan, planned_of, ComeFirst, commands_in}
use Rattle.cmd_queue.specs.Messages.{all_carried}
use Rattle.cmd_queue.specs.Sides.{QueueId, Sent, Ended, Taking, Settlement}

-- ---- what contracts see of each, read off its pass

-- what was answered: all that was received but the last `kept`
abbrev pub answered : List Taken → (kept : ℕ) → List Taken
answered received kept = take (length received - kept) received

-- ---- what holds of each

-- the pass of a sender that has not closed knows its number, and as many commands as it counted
abbrev pub IsSenderView : View → (sender count : ℕ) → Type 0
IsSenderView v sender count = (v.sends ≡ true) × (sender ≡ v.from) × (count ≡ length (all_carried v.put)) × IsInOrder sender (all_carried v.put) × (has_mark (all_carried v.put) ≡ false)

-- the pass of a sender that closed or left knows its number, as many commands as it counted, and whether it is marked
abbrev pub IsClosedView : View → (sender count : ℕ) (marked : Bool) → Type 0
IsClosedView v sender count marked = (v.sends ≡ true) × (sender ≡ v.from) × (count ≡ length (entries (all_carried v.put))) × IsInOrder sender (all_carried v.put) × (has_mark (all_carried v.put) ≡ marked)

-- a sender's tally: how many of its commands are in the list, and whether its mark is
abbrev pub Counts : List Taken → (sender : ℕ) → Tally → Type 0
Counts list s t = (t.count ≡ length (entries (of_sender s list))) × (t.closed ≡ is_closed s list)

-- there is a tally for each sender
abbrev pub AreTallies : List Tally → (senders : ℕ) → List Taken → Type 0
AreTallies tallies senders list = (length tallies ≡ senders) × ((s : ℕ) (d : Tally) → s < senders → Counts list s (slice_index_or tallies s d))

-- what was received is of so many senders, and of each it is in order
abbrev pub AreOrdered : (senders : ℕ) → List Taken → Type 0
AreOrdered senders list = (s : ℕ) → IsInOrder s (of_sender s list) × (senders ≤ s → of_sender s list ≡ [])

-- what was received of each sender is of the plan
abbrev pub ArePlanned : Plan → List Taken → Type 0
ArePlanned plan list = (s : ℕ) → ComeFirst (planned_of plan s) (commands_in (of_sender s list))

-- the dispatcher's pass knows what was received, the last of which, `kept`, is not answered yet
pub record IsReceived (v : View) (kept : List Taken) : Type 0 where
  pub takes : v.takes ≡ true
  pub ordered : AreOrdered v.made (all_carried v.taken)
  pub planned : ArePlanned v.plan (all_carried v.taken)
  pub parts : all_carried v.taken ≡ answered (all_carried v.taken) (length kept) ++ kept

-- IsReceived, and what was answered is counted in the tallies
abbrev pub IsTakerView : View → List Tally → (kept : List Taken) → Type 0
IsTakerView v tallies kept = IsReceived v kept × AreTallies tallies v.made (answered (all_carried v.taken) (length kept))

-- what was answered is counted in the tallies; the last `given_up` that were received were dropped
abbrev pub IsTallied : Pass Message View → List Tally → (given_up : ℕ) → Type 0
IsTallied p tallies given_up = AreTallies tallies (view p).made (answered (all_carried (view p).taken) given_up)

module _ {Q M L A B : Type 0} where
  -- the side of a sender that has not closed
  abbrev pub IsSender : Sending (Rows (Badge (Key Message)) (Doing Message View) Q M (Key Message) L A) B → Pass Message View → ℕ → ℕ → Type 0
  IsSender end p sender count = IsSeatAt (sends_on end) p × IsSenderView (view p) sender count

  -- the end of one that closed or left
  abbrev pub IsClosedSender : Sending (Rows (Badge (Key Message)) (Doing Message View) Q M (Key Message) L A) B → Pass Message View → ℕ → ℕ → Bool → Type 0
  IsClosedSender end p sender count marked = IsSeatAt (sends_on end) p × IsClosedView (view p) sender count marked

  -- the dispatcher's side
  abbrev pub IsTaker : Receiving (Rows (Badge (Key Message)) (Doing Message View) Q M (Key Message) L A) B → Pass Message View → List Tally → (kept : List Taken) → Type 0
  IsTaker end p tallies kept = IsSeatAt (receives_on end) p × IsTakerView (view p) tallies kept

-- ---- of private contracts alone

abbrev pub queue_of : Pass Message View → QueueId
queue_of p = record { table = p.table_id; key = p.me.0.of; plan = (view p).plan }

abbrev pub sent_by : Pass Message View → Sent
sent_by p = record { queue = queue_of p; sender = (view p).from; list = all_carried (view p).put }

abbrev pub ended_by : Pass Message View → Bool → Ended
ended_by p marked = record { queue = queue_of p; sender = (view p).from; list = all_carried (view p).put; marked = marked }

abbrev pub taken_by : Pass Message View → (kept : List Taken) → Taking
taken_by p kept = record { queue = queue_of p; senders = (view p).made; list = answered (all_carried (view p).taken) (length kept) }

abbrev pub settled_by : Pass Message View → (given_up : ℕ) → Settlement
settled_by p given_up = record { queue = queue_of p; senders = (view p).made; list = answered (all_carried (view p).taken) given_up }

-- x is answered: the pass and what is kept, before and after
pub record IsAnswer (v : View) (kept : List Taken) (x : Taken) (w : View) (kept' : List Taken) : Type 0 where
  pub made : w.made ≡ v.made
  pub plan : w.plan ≡ v.plan
  pub received : IsReceived w kept'
  pub answer : answered (all_carried w.taken) (length kept') ≡ answered (all_carried v.taken) (length kept) ++ x ∷ []
  pub next : IsNext v.made (answered (all_carried v.taken) (length kept)) x

-- all these are answered
pub record IsAnswerOf (v : View) (kept xs : List Taken) (w : View) (kept' : List Taken) : Type 0 where
  pub made : w.made ≡ v.made
  pub plan : w.plan ≡ v.plan
  pub received : IsReceived w kept'
  pub answer : answered (all_carried w.taken) (length kept') ≡ answered (all_carried v.taken) (length kept) ++ xs
  pub next : AreNext v.made (answered (all_carried v.taken) (length kept)) xs
