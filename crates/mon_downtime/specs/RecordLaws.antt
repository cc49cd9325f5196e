-- The records that commands lead to keep their ids in order and their numbers in range.
use Rattle.std.specs.Prelude.{◌≡◌, ℕ, ◌≤◌, List, ◌++◌, length, Some, None}
use Rattle.cmd_types.specs.declared.limits.TheConstants.{GREATEST_NUMBER}
use Rattle.mon_downtime.specs.declared.downtime.Downtime.{Downtime}
use Rattle.mon_downtime.specs.declared.event.Event.{Event}
use Rattle.mon_downtime.specs.declared.plan.Plan.{Plan}
use Rattle.mon_downtime.specs.Records.{AreRecords}
use Rattle.mon_downtime.specs.Events.{due, after_event}
use Rattle.mon_downtime.specs.Schedule.{fault_of, new_records, IsSmallPlan}
use Rattle.mon_downtime.specs.Problem.{all_started}
use Rattle.mon_downtime.specs.Cancel.{cancelled}

-- they do so when new ones are added by a plan without a fault, when the events happen that are due, when those
-- start that wait for a problem, and when one is cancelled
pub record StayRecords (ds : List Downtime) : Type 0 where
  pub with_new : (clock : ℕ) (objects : List ℕ) (plan : Plan) → clock ≤ GREATEST_NUMBER → IsSmallPlan plan → fault_of ds clock plan ≡ None → AreRecords 0 (ds ++ new_records (length ds) clock objects plan)
  pub with_event : (t : ℕ) (e : Event) → due ds t ≡ Some e → AreRecords 0 (after_event ds e)
  pub with_started : (object clock : ℕ) → clock ≤ GREATEST_NUMBER → AreRecords 0 (all_started ds object clock)
  pub with_cancelled : (id : ℕ) → AreRecords 0 (cancelled ds id)

-- the records that commands lead to stay such records, whatever happens to them
abbrev pub RecordsStayRecords : Type 0
RecordsStayRecords = (ds : List Downtime) → AreRecords 0 ds → StayRecords ds
