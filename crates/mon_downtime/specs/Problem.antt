-- A problem of an object starts the flexible downtimes that wait for it.
use Rattle.std.specs.Prelude.{◌≡◌, ℕ, ◌+◌, ◌==◌, ◌&&◌, not, nat_le, nat_lt, Bool, true, false, if◌then◌else◌, List, [], ◌∷◌, length, map, filter, find, Option, Some, None, zero, suc}
use Rattle.mon_downtime.specs.declared.downtime.Downtime.{Downtime}
use Rattle.mon_downtime.specs.declared.downtime.Fate.{Fate}
use Rattle.mon_downtime.specs.declared.downtime.Fate.TheVariants.{Pending, Active, Over}
use Rattle.mon_downtime.specs.Records.{AreNumbered, with_fate}

-- the downtime has not started
abbrev pub is_pending : Fate → Bool
is_pending Pending = true
is_pending (Active since until) = false
is_pending Over = false

-- a flexible downtime that no trigger starts waits for a problem of its object while its window holds the clock
abbrev pub waits_for : ℕ → ℕ → Downtime → Bool
waits_for object clock d =
    (d.object == object) && is_pending d.fate && not d.plan.times.fixed && (d.plan.times.trigger_id == 0)
    && nat_le d.plan.times.start_time clock && nat_lt clock d.plan.times.end_time

-- the first downtime that waits
abbrev pub waiting : List Downtime → ℕ → ℕ → Option Downtime
waiting ds object clock = find (waits_for object clock) ds

-- the fate of a downtime that a problem starts at the clock
abbrev pub started_by : ℕ → Downtime → Fate
started_by clock d = Active clock (clock + d.plan.times.duration)

-- the records, with this one started, where there is one
abbrev pub start_found : List Downtime → ℕ → Option Downtime → List Downtime
start_found ds clock None = ds
start_found ds clock (Some d) = with_fate ds d.id (started_by clock)

-- the records after a problem of the object: the first downtime that waits has started
unfoldable pub after_problem : List Downtime → ℕ → ℕ → List Downtime
after_problem ds object clock = start_found ds clock (waiting ds object clock)

-- ---- all that wait

-- the downtime, started where it waits
abbrev pub started : ℕ → ℕ → Downtime → Downtime
started object clock d = if waits_for object clock d then record d { fate = started_by clock d } else d

-- the records, with all downtimes started that wait
unfoldable pub all_started : List Downtime → ℕ → ℕ → List Downtime
all_started ds object clock = map (started object clock) ds

-- the downtimes that wait, in order of their ids
unfoldable pub all_waiting : List Downtime → ℕ → ℕ → List Downtime
all_waiting ds object clock = filter (waits_for object clock) ds

-- the records after n problems, one seen after another
unfoldable pub after_problems : ℕ → List Downtime → ℕ → ℕ → List Downtime
after_problems zero ds object clock = ds
after_problems (suc n) ds object clock = after_problems n (after_problem ds object clock) object clock

-- the id of a downtime, where there is one, before these ids
abbrev pub id_before : Option Downtime → List ℕ → List ℕ
id_before None ids = ids
id_before (Some d) ids = d.id ∷ ids

-- the ids of the downtimes that n problems start, in turn
unfoldable pub ids_started : ℕ → List Downtime → ℕ → ℕ → List ℕ
ids_started zero ds object clock = []
ids_started (suc n) ds object clock = id_before (waiting ds object clock) (ids_started n (after_problem ds object clock) object clock)

-- problems seen as often as there are downtimes that wait start them all, in order of their ids, and then none waits
pub record StartsAll (ds : List Downtime) (object clock n : ℕ) : Type 0 where
  pub all : after_problems n ds object clock ≡ all_started ds object clock
  pub in_order : ids_started n ds object clock ≡ map (λ d. d.id) (all_waiting ds object clock)
  pub none_left : waiting (all_started ds object clock) object clock ≡ None

-- problems of one object start all downtimes that wait for them
abbrev pub AllThatWaitStart : Type 0
AllThatWaitStart = (ds : List Downtime) (object clock : ℕ) → AreNumbered 0 ds → StartsAll ds object clock (length (all_waiting ds object clock))

-- the first downtime that waits starts, and then those that waited after it; where none waits nothing changes
abbrev pub StartsFirst : List Downtime → (object clock : ℕ) → Option Downtime → Type 0
StartsFirst ds object clock None = (all_waiting ds object clock ≡ []) × (all_started ds object clock ≡ ds)
StartsFirst ds object clock (Some d) = AreNumbered 0 ds →
    (all_waiting ds object clock ≡ d ∷ all_waiting (after_problem ds object clock) object clock)
    × (all_started ds object clock ≡ all_started (after_problem ds object clock) object clock)

-- each problem starts the first downtime that waits, and leaves the others
abbrev pub OneStartsAfterAnother : Type 0
OneStartsAfterAnother = (ds : List Downtime) (object clock : ℕ) → StartsFirst ds object clock (waiting ds object clock)
