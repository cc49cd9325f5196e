-- What need not be looked at after an entry: the moment before which nothing is told of what stands, unless something but
-- the clock changes, and the objects for which an entry may change something.
use Rattle.std.specs.Prelude.{◌≡◌, ℕ, ◌+◌, ◌<◌, ◌≤◌, ◌==◌, ◌&&◌, ◌||◌, not, nat_lt, Bool, true, false, if◌then◌else◌, max, min, length, Option, Some, None, unwrap_or, slice_get}
use Rattle.mon_inventory.specs.declared.records.ObjectSpec.{ObjectSpec}
use Rattle.mon_inventory.specs.Configuration.{Configuration, recovers_the_told, tells_by_clock}
use Rattle.mon_notify.specs.declared.facts.Facts.{Facts}
use Rattle.mon_downtime.specs.Records.{depth_of}
use Rattle.mon_notify.specs.Viable.{is_open, is_of_code, problem_viable}
use Rattle.mon_engine.specs.declared.by_clock.HostView.{HostView}
use Rattle.mon_engine.specs.declared.by_clock.Touched.{Touched}
use Rattle.mon_engine.specs.declared.by_clock.Touched.TheVariants as touched
use Rattle.mon_engine.specs.declared.by_clock.TheConstants.{NEVER}
use Rattle.mon_engine.specs.declared.notices.Occasion.TheVariants.{Clock}
use Rattle.mon_engine.specs.declared.object.Object.{Object}
use Rattle.mon_engine.specs.Objects.{is_up, back_since}
use Rattle.mon_engine.specs.World.{World}
use Rattle.mon_engine.specs.Notices.{of_object, problem_facts, told_problem}
use Rattle.mon_engine.specs.ByClockLaws.{ready_notice}
use Rattle.mon_engine.specs.Ends.{is_end_due, owed_at, told_end, week}
use Rattle.mon_engine.specs.Effects as acts
use Rattle.mon_engine.specs.Effects.{Act}
use Rattle.mon_engine.specs.NoticeLaws.{is_service_at}

-- nothing is told of this object after an entry: its problem is not ready, and its end is not due
pub record IsIdle (inv : Configuration) (w : World) (object : ℕ) : Type 0 where
  pub problem : tells_by_clock inv ≡ true → ready_notice inv w object ≡ None
  pub ending : recovers_the_told inv ≡ true → is_end_due inv w object ≡ false

-- without the options no moment is kept; with one of them nothing is told of any object before this moment
abbrev pub IsQuiet : Configuration → World → (until : Option ℕ) → Type 0
IsQuiet inv w None = (tells_by_clock inv ≡ false) × (recovers_the_told inv ≡ false)
IsQuiet inv w (Some until) = (k c : ℕ) → w.clock ≤ c → c < until → IsIdle inv (record w { clock = c }) k

-- ---- of private contracts alone

-- ---- when

-- all tests of a PROBLEM but those of time, and that of its contacts
abbrev pub is_steady : Facts → Bool
is_steady f = is_open f && f.host_up && f.letter_on && not f.acknowledged && f.hard

-- the moment from which the interval since the last notice is over
abbrev pub over_from : Option ℕ → (interval : ℕ) → ℕ
over_from None interval = 0
over_from (Some last) interval = min (last + interval) NEVER

-- the moment from which these seconds have gone by
abbrev pub gone_from : (from seconds : Option ℕ) → ℕ
gone_from (Some from) (Some seconds) = min (from + seconds) NEVER
gone_from from seconds = 0

-- the moment from which what stands above came back long enough ago
abbrev pub settled_from : Facts → ℕ
settled_from f = if f.number == 0 then gone_from f.above_back f.settle else 0

-- the moment from which a notice is due by its number, its code and the interval
abbrev pub due_from : Facts → ℕ
due_from f = if (f.number == 0) || not (is_of_code f.notified f.code) then 0 else (if f.interval == 0 then NEVER else over_from f.last f.interval)

-- the moment from which the notice may be ready, of one that is not; a notice that passes all tests reaches nobody, at no
-- moment
abbrev pub wakes_by : Facts → ℕ
wakes_by f = if not (is_steady f) || problem_viable f then NEVER else max (max (unwrap_or f.not_before 0) (due_from f)) (max (gone_from f.since f.delay) (settled_from f))

abbrev pub wakes_of : Configuration → World → (object : ℕ) → ObjectSpec → Object → ℕ
wakes_of inv w object spec o = if o.status.code == 0 then NEVER else wakes_by (problem_facts inv w Clock object spec o)

-- the moment from which an end is no news, where some are owed it
abbrev pub stale_from : World → (object : ℕ) → Object → ℕ
stale_from w object o = if (o.status.code == 0) && nat_lt 0 (length (owed_at w object).contacts) then min (o.moments.changed + week) NEVER else NEVER

-- the moment from which something of the object of this index may be told, where nothing is now and nothing but the
-- clock changes
unfoldable pub wakes : Configuration → World → (object : ℕ) → ℕ
wakes inv w object = of_object NEVER (λ spec o. min (wakes_of inv w object spec o) (stale_from w object o)) (slice_get inv.objects object) (slice_get w.objects object)

-- ---- one object

-- what is to be told of one object: its end, and then its problem
abbrev pub end_told : (on : Bool) → Configuration → World → (object : ℕ) → World
end_told on inv w object = if on then told_end inv w object else w

abbrev pub problem_told : (on : Bool) → Configuration → World → (object : ℕ) → World
problem_told on inv w object = if on then told_problem inv Clock w object else w

abbrev pub told_one : Configuration → World → (object : ℕ) → World
told_one inv w object = problem_told (tells_by_clock inv) inv (end_told (recovers_the_told inv) inv w object) object

-- ---- which

-- what the tests of a service's notice read of its host
abbrev pub host_view : World → (host : ℕ) → HostView
host_view w host = record { up = is_up (slice_get w.objects host); depth = depth_of w.downtimes host; back = back_since (slice_get w.objects host) }

-- the object is not among the touched: those of a host are all objects, unless its services see it as before
abbrev pub Untouched : World → Touched → (object : ℕ) → Type 0
Untouched w touched.Nothing k = Unit {0}
Untouched w (touched.One x) k = k ≡ x → ⊥
Untouched w (touched.Host x before) k = (k ≡ x → ⊥) × (host_view w x ≡ before)
Untouched w touched.All k = ⊥

-- the objects for which an act may change something; what may change depths touches all
abbrev pub touches : Configuration → World → Act → Touched
touches inv w (acts.AddComment _ _ _ _) = touched.Nothing
touches inv w (acts.DelComment _ _) = touched.Nothing
touches inv w (acts.DelAllComments _) = touched.Nothing
touches inv w (acts.Acknowledge x _ _ _ _ _) = touched.One x
touches inv w (acts.RemoveAcknowledgement x) = touched.One x
touches inv w (acts.CheckResult x _ _) = if is_service_at inv x then touched.One x else touched.Host x (host_view w x)
touches inv w (acts.Set x _) = touched.One x
touches inv w (acts.SetAccepting _ _) = touched.Nothing
touches inv w (acts.Schedule _ _) = touched.Nothing
touches inv w (acts.ScheduleServices _ _) = touched.Nothing
touches inv w (acts.SendCustom x _) = touched.One x
touches inv w acts.Restart = touched.Nothing
touches inv w _ = touched.All

-- a touched object is in the inventory
abbrev pub IsTouchable : Configuration → Touched → Type 0
IsTouchable inv touched.Nothing = Unit {0}
IsTouchable inv (touched.One x) = x < length inv.objects
IsTouchable inv (touched.Host x before) = x < length inv.objects
IsTouchable inv touched.All = Unit {0}

-- of this object the same is to be told in both worlds
pub record IsAsReady (inv : Configuration) (before after : World) (object : ℕ) : Type 0 where
  pub problem : ready_notice inv after object ≡ ready_notice inv before object
  pub ending : is_end_due inv after object ≡ is_end_due inv before object

-- of the objects that are not touched the same is to be told in both worlds, at any clock
abbrev pub Covers : Configuration → (before after : World) → Touched → Type 0
Covers inv before after t = (k : ℕ) → Untouched after t k → (c : ℕ) → IsAsReady inv (record before { clock = c }) (record after { clock = c }) k

-- as `IsQuiet`, but for the touched objects
abbrev pub IsQuietBut : Configuration → World → Touched → (until : Option ℕ) → Type 0
IsQuietBut inv w t None = (tells_by_clock inv ≡ false) × (recovers_the_told inv ≡ false)
IsQuietBut inv w t (Some until) = (k : ℕ) → Untouched w t k → (c : ℕ) → w.clock ≤ c → c < until → IsIdle inv (record w { clock = c }) k
