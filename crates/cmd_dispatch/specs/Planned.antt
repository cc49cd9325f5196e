-- The commands that the feeds of a run may send.
use Rattle.std.specs.Prelude.{◌≡◌, ℕ, List, length, map, Option, Some, IfSome}
use Rattle.std.specs.Option.{option_map}
use Rattle.cmd_types.specs.declared.entry.Entry.{Entry}
use Rattle.cmd_types.specs.Spelling.{Timed}
use Rattle.cmd_lines.specs.Items.{commands, items}
use Rattle.cmd_queue.specs.Plans.{Plan, planned_of, ComeFirst, commands_in, AreOfPlan}
use Rattle.cmd_queue.specs.Sides.{Sent}
use Rattle.cmd_run.specs.Senders.{AreOf}

-- the commands that the text of a feed spells, where the text is known
abbrev pub spelled : (remaining : Option (List ℕ)) → Option (List Timed)
spelled remaining = option_map (λ text. commands (items text)) remaining

-- the entries are of a run with this plan: each is of one of its senders, and together they are of the plan
abbrev pub AreOfRun : Plan → List Entry → Type 0
AreOfRun plan entries = AreOf (length plan) entries × AreOfPlan plan entries

module _ {F : Type 0} where
  -- the plan of a run over these feeds: for each feed the commands that its text spells
  abbrev pub plan_of : (remaining : F → Option (List ℕ)) → List F → Plan
  plan_of remaining feeds = map (λ feed. spelled (remaining feed)) feeds

  -- The feeds of a run may have sent these entries: each entry is of one of the feeds; and for each feed whose text is
  -- known, its commands among them are a prefix of those that the text spells
  abbrev pub AreOfFeeds : (remaining : F → Option (List ℕ)) → List F → List Entry → Type 0
  AreOfFeeds remaining feeds entries = AreOfRun (plan_of remaining feeds) entries

-- ---- of private contracts alone

-- the commands that a sender has sent are of the plan of its queue
abbrev pub IsOfPlan : Sent → Type 0
IsOfPlan side = ComeFirst (planned_of side.queue.plan side.sender) (commands_in side.list)

-- where the plan of its queue knows the commands of this sender, they are those that the text of its feed spells
abbrev pub IsPlannedBy : (remaining : Option (List ℕ)) → Sent → Type 0
IsPlannedBy remaining side = IfSome (planned_of side.queue.plan side.sender) (λ all. spelled remaining ≡ Some all)
