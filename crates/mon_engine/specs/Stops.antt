-- The results of the code where an act is done, is rejected, or memory runs out in it.
use Rattle.std.specs.Prelude.{◌≡◌, Option, Some, None, Result, Ok, Err, IsOk}
use Rattle.mon_downtime.specs.declared.plan.Refusal.{Refusal}
use Rattle.mon_downtime.specs.declared.plan.Refusal.TheVariants as refusals
use Rattle.mon_engine.specs.declared.outcome.Reason.{Reason}
use Rattle.mon_engine.specs.declared.outcome.Reason.TheVariants as reasons
use Rattle.mon_engine.specs.declared.stop.ActStop.{ActStop}
use Rattle.mon_engine.specs.declared.stop.ActStop.TheVariants.{Rejected, Memory}
use Rattle.mon_downtime.specs.Schedule.{Fault}
use Rattle.mon_engine.specs.Downtimes.{reason_of}
use Rattle.mon_engine.specs.World.{World}

-- ---- of private contracts alone

-- the code's result where a plan is refused
abbrev pub stop_of : Refusal → ActStop
stop_of refusals.BadWindow = Rejected reasons.BadWindow
stop_of refusals.PastWindow = Rejected reasons.PastWindow
stop_of refusals.NoDuration = Rejected reasons.NoDuration
stop_of refusals.NoTrigger = Rejected reasons.NoTrigger
stop_of refusals.TriggerOver = Rejected reasons.TriggerOver
stop_of refusals.Memory = Memory

-- the code's result for a plan: its first fault, and out of memory only where it has none
abbrev pub IsStopOf : Option Fault → ActStop → Type 0
IsStopOf None why = why ≡ Memory
IsStopOf (Some fault) why = why ≡ Rejected (reason_of fault)

-- The code's result for an act whose rule gives r: a rejection leaves the world as it was. Out of memory is
-- returned only where the act would have been done; nothing is said of the world after it.
abbrev pub Acts : Result World Reason → Result (Unit {0}) ActStop → World → World → Type 0
Acts r (Ok x) old new = r ≡ Ok new
Acts r (Err (Rejected why)) old new = (r ≡ Err why) × (new ≡ old)
Acts r (Err Memory) old new = IsOk r
