-- The scheduling of downtimes: the faults of a plan, and the records that it adds.
use Rattle.std.specs.Prelude.{◌≡◌, ℕ, ◌+◌, ◌==◌, ◌&&◌, not, nat_le, if◌then◌else◌, List, [], ◌∷◌, Option, Some, None, ◌≤◌}
use Rattle.cmd_types.specs.declared.limits.TheConstants.{GREATEST_NUMBER}
use Rattle.mon_downtime.specs.declared.downtime.Downtime.{Downtime}
use Rattle.mon_downtime.specs.declared.downtime.Fate.TheVariants.{Pending}
use Rattle.mon_downtime.specs.declared.plan.Plan.{Plan}
use Rattle.mon_downtime.specs.declared.plan.Refusal.{Refusal}
use Rattle.mon_downtime.specs.declared.plan.Times.{Times}
use Rattle.mon_downtime.specs.declared.plan.Refusal.TheVariants as refusals
use Rattle.mon_downtime.specs.Records.{record_of, is_over}

-- the faults of a plan
pub data Fault : Type 0 where
  BadWindow : Fault
  PastWindow : Fault
  NoDuration : Fault
  NoTrigger : Fault
  TriggerOver : Fault

-- the fault of a trigger: it was never scheduled, or it is over
abbrev pub trigger_fault : Option Downtime → Option Fault
trigger_fault None = Some NoTrigger
trigger_fault (Some trigger) = if is_over trigger.fate then Some TriggerOver else None

-- the first fault of a plan's times, in the order of the tests
abbrev pub fault_by : List Downtime → ℕ → Times → Option Fault
fault_by ds clock times =
    if nat_le times.end_time times.start_time then Some BadWindow
    else (if nat_le times.end_time clock then Some PastWindow
    else (if not times.fixed && (times.duration == 0) then Some NoDuration
    else (if times.trigger_id == 0 then None
    else trigger_fault (record_of ds times.trigger_id))))

-- the first fault of a plan: its texts have none
abbrev pub fault_of : List Downtime → ℕ → Plan → Option Fault
fault_of ds clock plan = fault_by ds clock plan.times

-- the code's answer for a fault
abbrev pub refusal_by : Fault → Refusal
refusal_by BadWindow = refusals.BadWindow
refusal_by PastWindow = refusals.PastWindow
refusal_by NoDuration = refusals.NoDuration
refusal_by NoTrigger = refusals.NoTrigger
refusal_by TriggerOver = refusals.TriggerOver

-- a plan is refused for its first fault; one without a fault only where memory runs out
abbrev pub IsRefusedBy : Option Fault → Refusal → Type 0
IsRefusedBy None why = why ≡ refusals.Memory
IsRefusedBy (Some fault) why = why ≡ refusal_by fault

-- the new record of a plan after n others
abbrev pub new_record : ℕ → ℕ → ℕ → Plan → Downtime
new_record n clock object plan = record { id = n + 1; object = object; plan = plan; entered = clock; fate = Pending }

-- one new record for each object, in order
unfoldable pub new_records : ℕ → ℕ → List ℕ → Plan → List Downtime
new_records n clock [] plan = []
new_records n clock (object ∷ objects) plan = new_record n clock object plan ∷ new_records (n + 1) clock objects plan

-- the numbers of a plan are in the range of a command's
abbrev pub IsSmallPlan : Plan → Type 0
IsSmallPlan plan = (plan.times.start_time ≤ GREATEST_NUMBER) × (plan.times.end_time ≤ GREATEST_NUMBER) × (plan.times.duration ≤ GREATEST_NUMBER)
