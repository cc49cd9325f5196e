-- The state of one object, and how a result, a notice and a command change it.
use Rattle.std.specs.Prelude.{ℕ, ◌+◌, ◌==◌, ◌&&◌, not, Bool, true, false, if◌then◌else◌, List, [], Option, Some, None, is_some, slice_get}
use Rattle.mon_checks.specs.declared.status.Status.{Status}
use Rattle.mon_checks.specs.States.{first_status, status_after, change_by}
use Rattle.mon_inventory.specs.declared.records.ObjectSpec.{ObjectSpec}
use Rattle.mon_notify.specs.Custom.{increments}
use Rattle.mon_engine.specs.declared.object.Kind.{Kind}
use Rattle.mon_engine.specs.declared.object.Kind.TheVariants.{Host, Service}
use Rattle.mon_engine.specs.declared.object.Object.{Object}
use Rattle.mon_engine.specs.declared.object.Moments.{Moments}
use Rattle.mon_engine.specs.declared.object.Acknowledgement.{Acknowledgement}
use Rattle.mon_engine.specs.declared.object.Acknowledgement.TheVariants.{Unacknowledged, Normal, Sticky}
use Rattle.mon_engine.specs.declared.objects.Setting.{Setting}
use Rattle.mon_engine.specs.declared.objects.Setting.TheVariants as settings

-- the line of the inventory is that of a service
abbrev pub is_service : ObjectSpec → Bool
is_service spec = is_some spec.service

-- an object with a service's name is a service, one without is a host
abbrev pub kind_by : (service : Option (List ℕ)) → Kind
kind_by None = Host
kind_by (Some service) = Service

-- the kind of the object that a line of the inventory defines
abbrev pub kind_of : ObjectSpec → Kind
kind_of spec = kind_by spec.service

-- an object with this service's name, or none, is of that kind
abbrev pub is_of : Kind → (service : Option (List ℕ)) → Bool
is_of Host service = not (is_some service)
is_of Service service = is_some service

-- the object is there, and of that kind
abbrev pub is_kind : Kind → Option ObjectSpec → Bool
is_kind kind None = false
is_kind kind (Some spec) = is_of kind spec.service

-- the status is that of a hard problem
abbrev pub is_of_hard_problem : Status → Bool
is_of_hard_problem s = not (s.code == 0) && s.hard

-- the moments of an object that has had no result
abbrev pub first_moments : Moments
first_moments = record { checked = None; changed = 0; since = None }

-- an object that has had no result and no command
abbrev pub initial_object : ObjectSpec → Object
initial_object spec = record {
  status = first_status (is_service spec);
  moments = first_moments;
  output = [];
  acknowledgement = Unacknowledged;
  number = 0;
  last = None;
  notified = None;
  not_before = None;
  notify = true;
  passive = true;
}

-- ---- the life of an acknowledgement

-- an acknowledgement, normal or sticky
abbrev pub is_acknowledged : Acknowledgement → Bool
is_acknowledged Unacknowledged = false
is_acknowledged Normal = true
is_acknowledged Sticky = true

-- a sticky acknowledgement stays, a normal one goes
abbrev pub only_sticky : Acknowledgement → Acknowledgement
only_sticky Unacknowledged = Unacknowledged
only_sticky Normal = Unacknowledged
only_sticky Sticky = Sticky

-- a recovery removes any acknowledgement, another change of the code a normal one
abbrev pub acknowledgement_after : Acknowledgement → (changed recovered : Bool) → Acknowledgement
acknowledgement_after a changed recovered = if recovered then Unacknowledged else (if changed then only_sticky a else a)

-- 2 is sticky, any other number normal
abbrev pub acknowledgement_of : ℕ → Acknowledgement
acknowledgement_of sticky = if sticky == 2 then Sticky else Normal

-- ---- results

-- the moment at which a hard problem began, where the status is that of one: the clock, or the one before where it was
-- a hard problem already
abbrev pub since_after : (clock : ℕ) → (before : Status) → Option ℕ → (after : Status) → Option ℕ
since_after clock before since after = if is_of_hard_problem after then (if is_of_hard_problem before then since else Some clock) else None

-- the moments of an object after a result at this clock
abbrev pub moments_after : (clock code : ℕ) → (before after : Status) → Moments → Moments
moments_after clock code before after t = record {
  checked = Some clock;
  changed = if (change_by before code).code_changed then clock else t.changed;
  since = since_after clock before t.since after;
}

-- the object after a result at this clock; a change of the code ends a delay of its notices
abbrev pub object_after : (clock code : ℕ) → (output : List ℕ) → (host_up soft_hosts : Bool) → (max : ℕ) → Object → Object
object_after clock code output host_up soft_hosts max o = record o {
  status = status_after o.status code host_up soft_hosts max;
  moments = moments_after clock code o.status (status_after o.status code host_up soft_hosts max) o.moments;
  output = output;
  acknowledgement = acknowledgement_after o.acknowledgement (change_by o.status code).code_changed (change_by o.status code).recovered;
  not_before = if (change_by o.status code).code_changed then None else o.not_before;
}

-- the result removes an acknowledgement
abbrev pub result_unacknowledges : Object → (code : ℕ) → Bool
result_unacknowledges o code =
    is_acknowledged o.acknowledgement
    && not (is_acknowledged (acknowledgement_after o.acknowledgement (change_by o.status code).code_changed (change_by o.status code).recovered))

-- ---- hosts

-- each object's host is there (`IsObject`), so that nothing is asked of none
abbrev pub is_up : Option Object → Bool
is_up None = true
is_up (Some o) = o.status.code == 0

-- the host of the object has code 0
abbrev pub host_is_up : List Object → ObjectSpec → Bool
host_is_up os spec = is_up (slice_get os spec.host_object)

-- the moment at which it came back: the last change of its code, where that is 0
abbrev pub back_since : Option Object → Option ℕ
back_since None = None
back_since (Some o) = if o.status.code == 0 then Some o.moments.changed else None

-- ---- what notices leave

-- one more notice of the problem went out at this clock, of the object's present code
abbrev pub after_told : (clock : ℕ) → Object → Object
after_told clock o = record o { number = o.number + 1; last = Some clock; notified = Some o.status.code }

-- the number of a custom notice: the next one where its options ask for that, else the object's
abbrev pub custom_number : (options : ℕ) → Object → ℕ
custom_number options o = if increments options then o.number + 1 else o.number

-- the count of notices begins anew: none went out, and none is held back
abbrev pub reset : Object → Object
reset o = record o { number = 0; last = None; notified = None; not_before = None }

-- ---- what commands set

-- the object with one setting changed
abbrev pub with_setting : Setting → Object → Object
with_setting (settings.Passive on) o = record o { passive = on }
with_setting (settings.Notify on) o = record o { notify = on }
with_setting (settings.Delay moment) o = record o { not_before = Some moment }
with_setting (settings.Number n) o = record o { number = n }

-- the object with this acknowledgement
abbrev pub with_acknowledgement : Acknowledgement → Object → Object
with_acknowledgement a o = record o { acknowledgement = a }
