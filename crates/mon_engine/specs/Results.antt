-- The effect of a check result on its object, its comments and downtimes, and the notice that goes out.
use Rattle.std.specs.Prelude.{◌≡◌, ℕ, ◌≤◌, ◌&&◌, Bool, false, if◌then◌else◌, List, ◌++◌, Option, Some, None, Result, Ok, Err, slice_get, option_to_list}
use Rattle.std.specs.List.{flat_map}
use Rattle.cmd_types.specs.declared.limits.TheConstants.{GREATEST_NUMBER}
use Rattle.mon_checks.specs.States.{change_by, IsCodeOf, IsWithin}
use Rattle.mon_downtime.specs.Problem.{all_started, all_waiting}
use Rattle.mon_notes.specs.Comments.{without_acknowledged}
use Rattle.mon_inventory.specs.declared.records.ObjectSpec.{ObjectSpec}
use Rattle.mon_inventory.specs.Configuration.{Configuration, passive_hosts_soft}
use Rattle.mon_engine.specs.declared.results.Checked.{Checked}
use Rattle.mon_engine.specs.declared.notice.Word.TheVariants.{DowntimeStart}
use Rattle.mon_engine.specs.declared.object.Object.{Object}
use Rattle.mon_engine.specs.declared.switches.Program.{Program}
use Rattle.mon_engine.specs.declared.outcome.Reason.{Reason}
use Rattle.mon_engine.specs.declared.outcome.Reason.TheVariants.{UnknownHost, PassiveOff}
use Rattle.mon_engine.specs.Places.{changed_at}
use Rattle.mon_engine.specs.Objects.{is_service, kind_of, host_is_up, is_of_hard_problem, object_after, result_unacknowledges}
use Rattle.mon_engine.specs.Switches.{accepts}
use Rattle.mon_engine.specs.World.{World}
use Rattle.mon_engine.specs.Notices.{of_object, downtime_notice, noticed}

-- a result is taken where the program's and the object's switch for its kind are on
abbrev pub is_taken : Program → ObjectSpec → Object → Bool
is_taken program spec o = accepts program (kind_of spec) && o.passive

-- the object takes the result; where that removes an acknowledgement, its comments go
abbrev pub with_result : Configuration → World → (object : ℕ) → ObjectSpec → Object → (code : ℕ) → (output : List ℕ) → World
with_result inv w object spec o code output = record w {
  objects = changed_at w.objects object (object_after w.clock code output (host_is_up w.objects spec) (passive_hosts_soft inv) spec.max);
  notes = if result_unacknowledges o code then without_acknowledged object w.notes else w.notes;
}

-- a result is of an object that is there (as `of_object` says), so none is no problem
abbrev pub is_hard_problem : Option Object → Bool
is_hard_problem None = false
is_hard_problem (Some o) = is_of_hard_problem o.status

-- the flexible downtimes of the object that wait for a problem start, each with its notice, in order of id
unfoldable pub started_all : Configuration → World → (object : ℕ) → World
started_all inv w object = record w {
  downtimes = all_started w.downtimes object w.clock;
  notices = w.notices ++ flat_map (λ d. option_to_list (downtime_notice inv w DowntimeStart w.clock object)) (all_waiting w.downtimes object w.clock);
}

-- they start where the object is in a hard problem
abbrev pub with_started : Configuration → World → (object : ℕ) → World
with_started inv w object = if is_hard_problem (slice_get w.objects object) then started_all inv w object else w

-- a result that is taken, in order: the object, its comments, the downtimes that start, and the notice of the
-- recovery or the problem
abbrev pub after_taken : Configuration → World → (object : ℕ) → (code : ℕ) → (output : List ℕ) → ObjectSpec → Object → World
after_taken inv w object code output spec o = noticed inv (with_started inv (with_result inv w object spec o code output) object) object (change_by o.status code)

-- a result of an object that is there: taken, or rejected
abbrev pub after_result_of : Configuration → World → (object : ℕ) → (code : ℕ) → (output : List ℕ) → ObjectSpec → Object → Result World Reason
after_result_of inv w object code output spec o = if is_taken w.program spec o then Ok (after_taken inv w object code output spec o) else Err PassiveOff

-- the world after a check result, or why it is rejected
unfoldable pub after_check_result : Configuration → World → (object : ℕ) → (code : ℕ) → (output : List ℕ) → Result World Reason
after_check_result inv w object code output = of_object (Err UnknownHost) (after_result_of inv w object code output) (slice_get inv.objects object) (slice_get w.objects object)

-- ---- of private contracts alone

-- what a result does beside the object's new state: whether it removes an acknowledgement, and what it changes
abbrev pub checked_as : Object → (code : ℕ) → Checked
checked_as o code = record { unacknowledges = result_unacknowledges o code; change = change_by o.status code }

-- the code is one of that object
abbrev pub IsCodeAt : Configuration → ℕ → ℕ → Type 0
IsCodeAt inv object code = (spec : ObjectSpec) → slice_get inv.objects object ≡ Some spec → IsCodeOf (is_service spec) code

-- an object that can take a result of this code, with this greatest attempt
pub record CanTake (code max : ℕ) (o : Object) : Type 0 where
  pub of_kind : IsCodeOf o.status.service code
  pub least : 1 ≤ max
  pub greatest : max ≤ GREATEST_NUMBER
  pub within : IsWithin max o.status
