-- Lists of what senders send and the dispatcher takes: entries and close marks.
use Rattle.std.specs.Prelude.{◌≡◌, ◌==◌, ℕ, ◌+◌, ◌<◌, Bool, true, false, List, [], ◌∷◌, ◌++◌, length, map, Option, Some, None}
use Rattle.std.specs.List.{filter, filter_map}
use Rattle.cmd_types.specs.declared.entry.Entry.{Entry}
use Rattle.cmd_queue.specs.declared.taken.Taken.{Taken}
use Rattle.cmd_queue.specs.declared.taken.Taken.TheVariants.{Command, Closed}

abbrev pub sender_of : Taken → ℕ
sender_of (Command entry) = entry.sender
sender_of (Closed sender count) = sender

-- the entries and the mark of this sender, in order
abbrev pub of_sender : (sender : ℕ) → List Taken → List Taken
of_sender sender list = filter (λ x. sender_of x == sender) list

-- the entry that was taken, if it is one
abbrev pub entry_in : Taken → Option Entry
entry_in (Command entry) = Some entry
entry_in (Closed sender count) = None

-- the entries, without the marks
abbrev pub entries : List Taken → List Entry
entries list = filter_map entry_in list

-- entries as they are sent
abbrev pub all_sent : List Entry → List Taken
all_sent entries = map Command entries

-- there is a close mark
abbrev pub has_mark : List Taken → Bool
has_mark [] = false
has_mark (Command entry ∷ list) = has_mark list
has_mark (Closed sender count ∷ list) = true

-- the sender's mark is in the list
abbrev pub is_closed : (sender : ℕ) → List Taken → Bool
is_closed sender list = has_mark (of_sender sender list)

-- What a sender may send after n commands: entries of its own at the places n + 1, n + 2, .. without
-- a gap, and then at most one mark of its own, which is last and has the number of its commands
abbrev pub IsInOrderAfter : (n sender : ℕ) → List Taken → Type 0
IsInOrderAfter n sender [] = Unit {0}
IsInOrderAfter n sender (Command entry ∷ list) = (entry.sender ≡ sender) × (entry.place ≡ n + 1) × IsInOrderAfter (n + 1) sender list
IsInOrderAfter n sender (Closed s count ∷ list) = (s ≡ sender) × (count ≡ n) × (list ≡ [])

-- what a sender may send in all: the places are 1, 2, ..
abbrev pub IsInOrder : (sender : ℕ) → List Taken → Type 0
IsInOrder sender list = IsInOrderAfter 0 sender list

-- x is the entry at the place after n, or a mark that has n as its count
abbrev pub IsPlaced : (n : ℕ) → Taken → Type 0
IsPlaced n (Command entry) = entry.place ≡ n + 1
IsPlaced n (Closed sender count) = count ≡ n

-- x is of one of so many senders that is not closed: its entry at the place after those that were
-- taken of it, or its mark with the number of these
pub record IsNext (senders : ℕ) (taken : List Taken) (x : Taken) : Type 0 where
  pub known : sender_of x < senders
  pub open_yet : is_closed (sender_of x) taken ≡ false
  pub placed : IsPlaced (length (entries (of_sender (sender_of x) taken))) x

-- each x of xs is next, after those before it
abbrev pub AreNext : (senders : ℕ) (taken xs : List Taken) → Type 0
AreNext senders taken [] = Unit {0}
AreNext senders taken (x ∷ xs) = IsNext senders taken x × AreNext senders (taken ++ x ∷ []) xs

-- the list begins with this one
abbrev pub BeginsWith : List Taken → List Taken → Type 0
BeginsWith list start = (rest : List Taken) × (list ≡ start ++ rest)
