-- The commands that are sent are of the plan of the run.
use Rattle.std.proofs.Common.{◌≡◌, ◌==◌, ◌<◌, ℕ, zero, suc, ◌+◌, ◌≤◌, Bool, List, [], ◌∷◌, ◌++◌, length, map, slice_index_or, Option, Some, None, refl, sym, ap, ◌∙◌, subst, arith, append_assoc, append-nil}
use Rattle.std.specs.Prelude.{IfSome}
use Rattle.std.specs.Io.KnownBytes.{Consumes}
use Rattle.std.proofs.lemmas.List.{length-map, map-append}
use Rattle.std.proofs.lemmas.List.Elements.{filter-append, filter_map-append}
use Rattle.cmd_types.specs.declared.entry.Entry.{Entry}
use Rattle.cmd_types.specs.Entries.{entries_after}
use Rattle.cmd_types.specs.Spelling.{Timed}
use Rattle.cmd_lines.specs.declared.fault.LineFault.{LineFault}
use Rattle.cmd_lines.specs.declared.item.Item.{Item}
use Rattle.cmd_lines.specs.declared.lines.TheConstants.{MOST_FED}
use Rattle.cmd_lines.specs.declared.phase.Phase.{Phase}
use Rattle.cmd_lines.specs.declared.phase.Phase.TheVariants.{Finished}
use Rattle.cmd_lines.specs.Items.{commands, known, items, items_so_far, items_cut}
use Rattle.cmd_lines.specs.Reader.{Waiting, Stands}
use Rattle.cmd_queue.specs.declared.taken.Taken.{Taken}
use Rattle.cmd_queue.specs.declared.taken.Taken.TheVariants.{Command}
use Rattle.cmd_queue.specs.declared.make.TheConstants.{MOST_TOGETHER}
use Rattle.cmd_queue.specs.Lists.{entry_in, entries, all_sent}
use Rattle.cmd_queue.specs.Plans.{Plan, planned_of, ComeFirst, stamped_of, commands_in, commands_of, AreOfPlan}
use Rattle.cmd_queue.specs.Sides.{QueueId, Sent, with_command, with_commands, new_side}
use Rattle.cmd_run.specs.Senders.{AreOf}
use Rattle.cmd_run.specs.declared.ending.Ending.{Ending}
use Rattle.cmd_run.specs.declared.ending.Ending.TheVariants as ending
use Rattle.cmd_dispatch.specs.Delivered.{items_by, BeginsWith, IsAll, IsEnded}
use Rattle.cmd_dispatch.specs.Planned.{spelled, plan_of, AreOfRun, AreOfFeeds, IsOfPlan, IsPlannedBy}
use Rattle.cmd_dispatch.specs.Sends.{HasPassedOn, HasBegun, HasInPlan, KeepsPlan, IsCovered}
use Rattle.cmd_dispatch.proofs.Grown.{commands-append}
use Rattle.cmd_dispatch.proofs.CutLemmas.{cut_so_far}
use Rattle.cmd_dispatch.proofs.ToldLemmas.{first_given}

-- ---- prefixes

-- a prefix of the next commands of the plan is next in the plan too
pub begun_start : (planned : Option (List Timed)) (cs ds : List Timed) → ComeFirst planned (cs ++ ds) → ComeFirst planned cs
begun_start None cs ds begun = tt
begun_start (Some all) cs ds begun = (ds ++ begun.0, begun.1 ∙ append_assoc cs ds begun.0)

begun_first : (planned : Option (List Timed)) (all cs : List Timed) → BeginsWith all cs → ComeFirst planned all → ComeFirst planned cs
begun_first planned all cs first begun = begun_start planned cs first.0 (subst (ComeFirst planned) first.1 begun)

pub begun_nothing : (planned : Option (List Timed)) → ComeFirst planned []
begun_nothing None = tt
begun_nothing (Some all) = (all, refl)

-- ---- entries

commands_of-append : (s : ℕ) (xs ys : List Entry) → commands_of s (xs ++ ys) ≡ commands_of s xs ++ commands_of s ys
commands_of-append s xs ys =
    let own : Entry → Bool = λ (e : Entry). e.sender == s in
    ap stamped_of (filter-append own xs ys) ∙ map-append (λ (e : Entry). e.stamped) _ _

-- a prefix of entries of the plan is of the plan
pub plan_start : (plan : Plan) (xs ys : List Entry) → AreOfPlan plan (xs ++ ys) → AreOfPlan plan xs
plan_start plan xs ys are s = begun_start (planned_of plan s) (commands_of s xs) (commands_of s ys) (subst (ComeFirst (planned_of plan s)) (commands_of-append s xs ys) (are s))

pub run_nothing : (plan : Plan) → AreOfRun plan []
run_nothing plan = (tt, λ s. begun_nothing (planned_of plan s))

-- with the next of those that are of the plan
pub plan_next : (plan : Plan) (list : List Taken) (e : Entry) (xs : List Taken) → AreOfPlan plan (entries (list ++ Command e ∷ xs)) → AreOfPlan plan (entries list ++ e ∷ [])
plan_next plan list e xs are =
    plan_start plan (entries list ++ e ∷ []) (entries xs) (subst (AreOfPlan plan) (filter_map-append entry_in list (Command e ∷ xs) ∙ sym (append_assoc (entries list) (e ∷ []) (entries xs))) are)

of_more : (n : ℕ) (entries : List Entry) (e : Entry) → AreOf n entries → e.sender < n → AreOf n (entries ++ e ∷ [])
of_more n [] e are low = (low, tt)
of_more n (x ∷ entries) e are low = (are.0, of_more n entries e are.1 low)

-- ---- the plan of a run

-- one more entry of the feeds
pub fed_more : {F : Type 0} (remaining : F → Option (List ℕ)) (feeds : List F) (taken : List Entry) (e : Entry) → e.sender < length feeds → AreOf (length feeds) taken → AreOfPlan (plan_of remaining feeds) (taken ++ e ∷ []) → AreOfFeeds remaining feeds (taken ++ e ∷ [])
fed_more remaining feeds taken e low are sent = (subst (λ (n : ℕ). AreOf n (taken ++ e ∷ [])) (sym (length-map feeds (λ feed. spelled (remaining feed)))) (of_more (length feeds) taken e are low), sent)

planned_at : {F : Type 0} (f : F → Option (List Timed)) (feeds : List F) (k : ℕ) (d : F) → k < length feeds → planned_of (map f feeds) k ≡ f (slice_index_or feeds k d)
planned_at f [] k d low = absurd (omega arith)
planned_at f (x ∷ feeds) zero d low = refl
planned_at f (x ∷ feeds) (suc k) d low = planned_at f feeds k d (omega arith)

-- the known commands of a sender are those that its feed spells
planned_as : (planned spells : Option (List Timed)) → planned ≡ spells → IfSome planned (λ all. spells ≡ Some all)
planned_as None spells is = tt
planned_as (Some all) spells is = sym is

-- the side at the place of a feed is planned by it
pub side_planned : {F : Type 0} (remaining : F → Option (List ℕ)) (feeds : List F) (queue : QueueId) (k : ℕ) (f : F) (side : Sent) → queue.plan ≡ plan_of remaining feeds → side ≡ new_side queue k → k < length feeds → IsPlannedBy (remaining (slice_index_or feeds k f)) side
side_planned remaining feeds queue k f side plan is low =
    planned_as (planned_of side.queue.plan side.sender) (spelled (remaining (slice_index_or feeds k f))) (ap (λ (s : Sent). planned_of s.queue.plan s.sender) is ∙ ap (λ (p : Plan). planned_of p k) plan ∙ planned_at (λ feed. spelled (remaining feed)) feeds k f low)

-- ---- what a sender sends

sent_commands : (s n : ℕ) (cs : List Timed) → commands_in (all_sent (entries_after s n cs)) ≡ cs
sent_commands s n [] = refl
sent_commands s n (c ∷ cs) = ap (λ l. c ∷ l) (sent_commands s (n + 1) cs)

commands_in-append : (xs ys : List Taken) → commands_in (xs ++ ys) ≡ commands_in xs ++ commands_in ys
commands_in-append xs ys = ap stamped_of (filter_map-append entry_in xs ys) ∙ map-append (λ (e : Entry). e.stamped) (entries xs) (entries ys)

-- the commands that are gathered come next
pub gathered_next : (side : Sent) (gathered : List Timed) → IsOfPlan (with_commands side gathered) → ComeFirst (planned_of side.queue.plan side.sender) (commands_in side.list ++ gathered)
gathered_next side gathered is =
    let row = all_sent (entries_after side.sender (length side.list) gathered) in
    subst (ComeFirst (planned_of side.queue.plan side.sender)) (commands_in-append side.list row ∙ ap (λ l. commands_in side.list ++ l) (sent_commands side.sender (length side.list) gathered)) is

-- the gathered commands without the last ones come next too
pub gathered_first : (side : Sent) (first more : List Timed) → IsOfPlan (with_commands side (first ++ more)) → IsOfPlan (with_commands side first)
gathered_first side first more is =
    let row = all_sent (entries_after side.sender (length side.list) first) in
    let planned = planned_of side.queue.plan side.sender in
    subst (ComeFirst planned) (sym (commands_in-append side.list row ∙ ap (λ l. commands_in side.list ++ l) (sent_commands side.sender (length side.list) first)))
    (begun_start planned (commands_in side.list ++ first) more (subst (ComeFirst planned) (sym (append_assoc (commands_in side.list) first more)) (gathered_next side (first ++ more) is)))

-- the commands that were passed on are of the plan where the items are
pub passed_in_plan : (given : List Item) (side : Sent) (refused : List (ℕ × LineFault) → Type 0) → HasPassedOn given side refused → HasInPlan side given → IsOfPlan side
passed_in_plan given side refused passed in_plan =
    subst (ComeFirst (planned_of side.queue.plan side.sender)) (sym (ap commands_in passed.sent ∙ sent_commands side.sender 0 (commands given))) in_plan

in_plan_first : (side : Sent) (all given : List Item) → BeginsWith all given → HasInPlan side all → HasInPlan side given
in_plan_first side all given first in_plan =
    begun_first (planned_of side.queue.plan side.sender) (commands all) (commands given) (commands first.0, ap commands first.1 ∙ commands-append given first.0) in_plan

-- the same where the items are a prefix of such items
pub begun_in_plan : (all : List Item) (side : Sent) (refused : List (ℕ × LineFault) → Type 0) → HasBegun all side refused → HasInPlan side all → IsOfPlan side
begun_in_plan all side refused begun in_plan = passed_in_plan begun.given side refused begun.passed (in_plan_first side all begun.given begun.first in_plan)

-- the items that are passed on of a text are of the plan
pub kept_in_plan : (lines : Waiting) (side : Sent) (refused : List (ℕ × LineFault) → Type 0) → KeepsPlan lines side refused → IsOfPlan side
kept_in_plan lines side refused keeps =
    let giving = keeps.1 in
    begun_in_plan (known lines.phase keeps.0) side refused (record { given = giving.given; first = first_given lines keeps.0 giving.given giving.stands; passed = giving.passed }) keeps.2

-- the plan of a side is that of its queue and its number
pub in_plan_of : (side side' : Sent) (all : List Item) → side'.queue ≡ side.queue → side'.sender ≡ side.sender → HasInPlan side all → HasInPlan side' all
in_plan_of side side' all queue sender in_plan = subst (λ (y : QueueId × ℕ). ComeFirst (planned_of y.0.plan y.1) (commands all)) (λ i. (sym queue i, sym sender i)) in_plan

-- with the next item of the text
pub next_in_plan : (lines lines' : Waiting) (side side' : Sent) (refused refused' : List (ℕ × LineFault) → Type 0) (item : Item) → KeepsPlan lines side refused → lines'.phase ≡ lines.phase → side'.queue ≡ side.queue → side'.sender ≡ side.sender
    → ((f : List ℕ) (g : List Item) → Stands lines f g → Stands lines' f (g ++ item ∷ [])) → ((g : List Item) → HasPassedOn g side refused → HasPassedOn (g ++ item ∷ []) side' refused') → KeepsPlan lines' side' refused'
next_in_plan lines lines' side side' refused refused' item keeps phase queue sender stands passed =
    let giving = keeps.1 in (
      keeps.0,
      record { given = giving.given ++ item ∷ []; stands = stands keeps.0 giving.given giving.stands; passed = passed giving.given giving.passed },
      subst (λ (p : Phase). HasInPlan side' (known p keeps.0)) (sym phase) (in_plan_of side side' (known lines.phase keeps.0) queue sender keeps.2),
    )

-- where the text is fed more, or ends
pub on_in_plan : (lines' : Waiting) (all : List Item) (text : List ℕ) (given : List Item) (side : Sent) (refused : List (ℕ × LineFault) → Type 0) → Stands lines' text given → HasPassedOn given side refused → known lines'.phase text ≡ all → HasInPlan side all → KeepsPlan lines' side refused
on_in_plan lines' all text given side refused stands passed is in_plan = (text, record { given = given; stands = stands; passed = passed }, subst (HasInPlan side) (sym is) in_plan)

-- a side of the same queue and number is planned by the same feed
pub planned_still : (remaining : Option (List ℕ)) (side side' : Sent) → side'.queue ≡ side.queue → side'.sender ≡ side.sender → IsPlannedBy remaining side → IsPlannedBy remaining side'
planned_still remaining side side' queue sender planned = subst (λ (y : QueueId × ℕ). IfSome (planned_of y.0.plan y.1) (λ all. spelled remaining ≡ Some all)) (λ i. (sym queue i, sym sender i)) planned

-- a command that is sent comes next
pub command_next : (side : Sent) (place : ℕ) (t : Timed) → IsOfPlan (with_command side place t) → ComeFirst (planned_of side.queue.plan side.sender) (commands_in side.list ++ t ∷ [])
command_next side place t is = subst (ComeFirst (planned_of side.queue.plan side.sender)) (commands_in-append side.list (Command (record { sender = side.sender; place = place; stamped = t }) ∷ [])) is

-- ---- gathered commands

-- a sender that has sent nothing
pub nothing_sent : (side : Sent) → side.list ≡ [] → IsOfPlan side
nothing_sent side none = subst (λ (l : List Taken). ComeFirst (planned_of side.queue.plan side.sender) (commands_in l)) (sym none) (begun_nothing (planned_of side.queue.plan side.sender))

-- where nothing more was gathered
pub still_within : (lines : Waiting) (side : Sent) (old new : List Timed) (refused : List (ℕ × LineFault) → Type 0) → new ≡ old → length old < MOST_TOGETHER → IsCovered lines (with_commands side old) → lines.fed ≤ MOST_FED → KeepsPlan lines (with_commands side old) refused
    → (length new ≤ MOST_TOGETHER) × (length (with_commands side new).list ≤ MOST_FED) × IsOfPlan (with_commands side new)
still_within lines side old new refused same room covered few keeps =
    subst (λ (cs : List Timed). (length cs ≤ MOST_TOGETHER) × (length (with_commands side cs).list ≤ MOST_FED) × IsOfPlan (with_commands side cs)) (sym same) (omega (arith, room), omega (arith, covered, few), kept_in_plan lines (with_commands side old) refused keeps)

-- ---- the commands that a feed spells

-- a prefix of the commands that a sender's feed spells is next in the sender's plan
spelled_in_plan : (planned spells : Option (List Timed)) (cs : List Timed) → IfSome planned (λ all. spells ≡ Some all) → ComeFirst spells cs → ComeFirst planned cs
spelled_in_plan None spells cs is first = tt
spelled_in_plan (Some all) spells cs is first = subst (λ o. ComeFirst o cs) is first

-- a text that grows keeps the items of its whole lines
abbrev pub TheGrowthLaw : Type 0
TheGrowthLaw = (p : Phase) (text more : List ℕ) → (later : List Item) × (known p (text ++ more) ≡ items_so_far text ++ later)

module _ (grows : TheGrowthLaw) where
  spelled_so_far : (remaining after : Option (List ℕ)) (text : List ℕ) → Consumes remaining after text → ComeFirst (spelled remaining) (commands (items_so_far text))
  spelled_so_far None after text consumed = tt
  spelled_so_far (Some bytes) None text consumed = absurd consumed
  spelled_so_far (Some bytes) (Some rest) text consumed =
      let more = grows Finished text rest in
      (commands more.0, ap (λ (t : List ℕ). commands (items t)) consumed ∙ ap commands more.1 ∙ commands-append (items_so_far text) more.0)

  spelled_whole : (remaining : Option (List ℕ)) (text : List ℕ) → IsAll remaining text → ComeFirst (spelled remaining) (commands (items text))
  spelled_whole None text all = tt
  spelled_whole (Some bytes) text all = ([], ap (λ (t : List ℕ). commands (items t)) (sym all) ∙ sym (append-nil (commands (items text))))

  -- the commands that a delivered text determines so far are a prefix of those that the feed spells
  pub so_far_in_plan : (remaining after : Option (List ℕ)) (text : List ℕ) (side : Sent) → IsPlannedBy remaining side → Consumes remaining after text → HasInPlan side (items_so_far text)
  so_far_in_plan remaining after text side planned consumed = spelled_in_plan (planned_of side.queue.plan side.sender) (spelled remaining) (commands (items_so_far text)) planned (spelled_so_far remaining after text consumed)

  -- also where the text ended so
  pub told_in_plan : (remaining after : Option (List ℕ)) (fails fills : Bool) (piece reads : ℕ) (how : Ending) (text : List ℕ) (side : Sent) → IsPlannedBy remaining side → Consumes remaining after text → IsEnded remaining fails fills piece reads text how → HasInPlan side (items_by how text)
  told_in_plan remaining after fails fills piece reads how text side planned consumed is = spelled_in_plan (planned_of side.queue.plan side.sender) (spelled remaining) (commands (items_by how text)) planned (by how is)
    where
      cut : ComeFirst (spelled remaining) (commands (items_cut text))
      cut = subst (ComeFirst (spelled remaining)) (sym (cut_so_far text)) (spelled_so_far remaining after text consumed)

      by : (how : Ending) → IsEnded remaining fails fills piece reads text how → ComeFirst (spelled remaining) (commands (items_by how text))
      by ending.Whole is = spelled_whole remaining text is
      by ending.ReadFailed is = cut
      by ending.TooManyReads is = cut
      by ending.Memory is = absurd is
      by ending.QueueRefused is = absurd is
