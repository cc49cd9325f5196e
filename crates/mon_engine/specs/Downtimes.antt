-- The commands that schedule downtimes, and those that cancel them: the world after each, or the reason of its
-- rejection.
use Rattle.std.specs.Prelude.{ℕ, Bool, false, if◌then◌else◌, List, [], ◌∷◌, ◌++◌, length, Option, Some, None, Result, Ok, Err, slice_get, option_to_list}
use Rattle.std.specs.List.{flat_map}
use Rattle.mon_downtime.specs.declared.downtime.Downtime.{Downtime}
use Rattle.mon_downtime.specs.declared.plan.Plan.{Plan}
use Rattle.mon_downtime.specs.declared.plan.Times.{Times}
use Rattle.mon_downtime.specs.Records.{record_of, is_over}
use Rattle.mon_downtime.specs.Schedule.{Fault, BadWindow, PastWindow, NoDuration, NoTrigger, TriggerOver, fault_of, new_record, new_records}
use Rattle.mon_downtime.specs.Cancel.{cancelled, active_dependants}
use Rattle.mon_inventory.specs.Configuration.{Configuration}
use Rattle.mon_inventory.specs.Lookups.{services_of}
use Rattle.mon_engine.specs.declared.notice.Notice.{Notice}
use Rattle.mon_engine.specs.declared.notice.Word.TheVariants.{DowntimeCancelled}
use Rattle.mon_engine.specs.declared.object.Kind.{Kind}
use Rattle.mon_engine.specs.declared.outcome.Reason.{Reason}
use Rattle.mon_engine.specs.declared.outcome.Reason.TheVariants as reasons
use Rattle.mon_engine.specs.Objects.{is_kind}
use Rattle.mon_engine.specs.World.{World}
use Rattle.mon_engine.specs.Notices.{downtime_notice}

-- ---- scheduling

-- the plan of these times and texts
abbrev pub planned : Times → (author text : List ℕ) → Plan
planned times author text = record { times = times; author = author; text = text }

-- the plan of a command's arguments
abbrev pub plan_of : (start_time end_time : ℕ) → (fixed : Bool) → (trigger_id duration : ℕ) → (author text : List ℕ) → Plan
plan_of start_time end_time fixed trigger_id duration author text =
    planned (record { start_time = start_time; end_time = end_time; fixed = fixed; trigger_id = trigger_id; duration = duration }) author text

-- the reason of the rejection, for a fault of a plan
abbrev pub reason_of : Fault → Reason
reason_of BadWindow = reasons.BadWindow
reason_of PastWindow = reasons.PastWindow
reason_of NoDuration = reasons.NoDuration
reason_of NoTrigger = reasons.NoTrigger
reason_of TriggerOver = reasons.TriggerOver

-- the new records are after the others, where the plan has no fault; else its first fault is the reason
abbrev pub with_records : World → List Downtime → Option Fault → Result World Reason
with_records w new (Some fault) = Err (reason_of fault)
with_records w new None = Ok (record w { downtimes = w.downtimes ++ new })

-- the world with one more downtime of the object, or why that is rejected
abbrev pub after_schedule : World → (object : ℕ) → Plan → Result World Reason
after_schedule w object plan = with_records w (new_record (length w.downtimes) w.clock object plan ∷ []) (fault_of w.downtimes w.clock plan)

-- one downtime for each service of the host, in order; the plan is tested also where there is none
abbrev pub after_schedule_services : Configuration → World → (host : ℕ) → Plan → Result World Reason
after_schedule_services inv w host plan =
    with_records w (new_records (length w.downtimes) w.clock (services_of inv.objects host) plan) (fault_of w.downtimes w.clock plan)

-- ---- cancelling

-- the downtime is there, is not over, and is of that kind of object
abbrev pub has_downtime_by : Configuration → (kind : Kind) → Option Downtime → Bool
has_downtime_by inv kind None = false
has_downtime_by inv kind (Some d) = if is_over d.fate then false else is_kind kind (slice_get inv.objects d.object)

-- something of a record, where there is one: a cancelled downtime is a record that is there
abbrev pub of_downtime : (Downtime → Option Notice) → Option Downtime → Option Notice
of_downtime f None = None
of_downtime f (Some d) = f d

-- the notice that a downtime was cancelled
abbrev pub cancel_notice : Configuration → World → (id : ℕ) → Option Notice
cancel_notice inv w id = of_downtime (λ d. downtime_notice inv w DowntimeCancelled w.clock d.object) (record_of w.downtimes id)

-- the notices of these cancelled downtimes go out, in order
unfoldable pub told_cancelled : Configuration → World → (ids : List ℕ) → World
told_cancelled inv w ids = record w { notices = w.notices ++ flat_map (λ id. option_to_list (cancel_notice inv w id)) ids }

-- the downtime is over, and so is each that depends on it; of those that were active the notices go out
unfoldable pub after_cancel : Configuration → World → (id : ℕ) → World
after_cancel inv w id = told_cancelled inv (record w { downtimes = cancelled w.downtimes id }) (active_dependants w.downtimes id)

-- the world after the cancellation of a downtime of that kind of object, or why it is rejected
unfoldable pub after_del_downtime : Configuration → World → (kind : Kind) → (id : ℕ) → Result World Reason
after_del_downtime inv w kind id =
    if has_downtime_by inv kind (record_of w.downtimes id) then Ok (after_cancel inv w id) else Err reasons.NoSuchDowntime
