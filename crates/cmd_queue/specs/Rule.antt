-- The rule of the queue, which holds between any two steps.
use Rattle.std.specs.Prelude.{◌≡◌, ℕ, ◌<◌, ◌≤◌, true, List, []}
use mathlib.Core.Option.{Option, none, some}
use lib.ListN.{get_elem?}
use Rattle.cmd_queue.specs.declared.message.Message.{Message}
use Rattle.cmd_queue.specs.declared.rule.View.{View}
use Rattle.cmd_queue.specs.declared.rule.SenderMessages.{SenderMessages}
use Rattle.cmd_queue.specs.Plans.{Plan}
use Rattle.cmd_queue.specs.Messages.{IsLawful}

-- ---- of private contracts alone

-- each sender has one pass, which knows what it has sent, and the plan
abbrev pub FitsSender : Plan → (seat : ℕ → Option ℕ) (sent : ℕ → List Message) (pass : ℕ) → View → Type 0
FitsSender plan seat sent pass v = v.sends ≡ true → (seat v.from ≡ some pass) × (v.put ≡ sent v.from) × (v.plan ≡ plan)

-- The dispatcher's one pass knows what was taken, and the plan. Senders beyond those that it made have no pass
-- and have sent nothing; those whose lists it keeps have no pass any more, and the lists are what
-- they have sent
abbrev pub FitsTaker : Plan → (taker : ℕ) (seat : ℕ → Option ℕ) (sent : ℕ → List Message) (taken : List Message) (pass : ℕ) → View → Type 0
FitsTaker plan taker seat sent taken pass v =
    v.takes ≡ true
    → (pass ≡ taker) × (v.taken ≡ taken)
    × ((s : ℕ) → v.made ≤ s → (seat s ≡ none) × (sent s ≡ []))
    × ((i : ℕ) (k : SenderMessages) → get_elem? v.kept i ≡ some k → (k.sender < v.made) × (seat k.sender ≡ none) × (k.list ≡ sent k.sender))
    × (v.plan ≡ plan)

abbrev pub Fits : Plan → (taker : ℕ) (seat : ℕ → Option ℕ) (sent : ℕ → List Message) (taken : List Message) (pass : ℕ) → View → Type 0
Fits plan taker seat sent taken pass v = FitsSender plan seat sent pass v × FitsTaker plan taker seat sent taken pass v

-- The messages that wait, those that each sender has sent and those that were taken are lawful, and each pass
-- knows its part of them and the plan. `seat` gives the pass of a sender, if it has one
pub record Ruled (waiting : List Message) (views : List View) : Type 0 where
  pub plan : Plan
  pub taker : ℕ
  pub seat : ℕ → Option ℕ
  pub sent : ℕ → List Message
  pub taken : List Message
  pub lawful : IsLawful plan sent waiting taken
  pub fits : (pass : ℕ) (v : View) → get_elem? views pass ≡ some v → Fits plan taker seat sent taken pass v
