-- What the clock tells: laws over the definitions, for any world.
use Rattle.std.specs.Prelude.{◌≡◌, ◌≢◌, ℕ, ◌==◌, true, false, if◌then◌else◌, List, ◌++◌, length, Option, Some, None, is_some, slice_get, option_to_list}
use Rattle.std.specs.List.{flat_map, range_with_len}
use Rattle.cmd_types.specs.declared.entry.Entry.{Entry}
use Rattle.mon_inventory.specs.declared.records.ObjectSpec.{ObjectSpec}
use Rattle.mon_inventory.specs.Configuration.{Configuration, recovers_the_told, tells_by_clock}
use Rattle.mon_engine.specs.declared.notices.Occasion.TheVariants.{Clock}
use Rattle.mon_engine.specs.declared.notice.Notice.{Notice}
use Rattle.mon_engine.specs.declared.object.Object.{Object}
use Rattle.mon_engine.specs.declared.withheld.Withheld.{Withheld}
use Rattle.mon_engine.specs.Objects.{after_told}
use Rattle.mon_engine.specs.World.{World}
use Rattle.mon_engine.specs.Notices.{of_object}
use Rattle.mon_engine.specs.Withheld.{next_problem, withheld_of, withheld}
use Rattle.mon_engine.specs.ByClock.{told_by_clock}
use Rattle.mon_engine.specs.Step.{acted, step}

-- ---- what is ready is told

-- the notice, unless something holds it back
abbrev pub unless : Option Withheld → Notice → Option Notice
unless None n = Some n
unless (Some why) n = None

-- the next PROBLEM of the object, where its code is not 0 and no test of it fails
abbrev pub ready_notice_of : Configuration → World → (object : ℕ) → ObjectSpec → Object → Option Notice
ready_notice_of inv w object spec o = if o.status.code == 0 then None else unless (withheld_of inv w Clock object spec o) (next_problem inv w object spec o)

-- the notice for which the object of this index is ready
unfoldable pub ready_notice : Configuration → World → (object : ℕ) → Option Notice
ready_notice inv w object = of_object None (ready_notice_of inv w object) (slice_get inv.objects object) (slice_get w.objects object)

-- the notices for which the first so many objects are ready, in order of the inventory
abbrev pub ready_notices : Configuration → World → (count : ℕ) → List Notice
ready_notices inv w count = flat_map (λ object. option_to_list (ready_notice inv w object)) (range_with_len 0 count)

-- the object, with the notice counted for which it is ready
abbrev pub after_ready : Configuration → World → (object : ℕ) → Object → Object
after_ready inv w object o = if is_some (ready_notice inv w object) then after_told w.clock o else o

-- each notice for which an object is ready goes out, in order of the inventory, and its object counts it; nothing else
-- changes
pub record TellsWhatIsReady (inv : Configuration) (w w' : World) : Type 0 where
  pub same : w' ≡ record w { objects = w'.objects; notices = w.notices ++ ready_notices inv w (length inv.objects) }
  pub as_many : length w'.objects ≡ length w.objects
  pub each : (object : ℕ) (o : Object) → slice_get w.objects object ≡ Some o → slice_get w'.objects object ≡ Some (after_ready inv w object o)

-- with the option the clock tells what is ready
abbrev pub TheClockTellsWhatIsReady : Type 0
TheClockTellsWhatIsReady = (inv : Configuration) (w : World) → tells_by_clock inv ≡ true → TellsWhatIsReady inv w (told_by_clock inv w)

-- without it, and without the option `recover_the_told`, an entry is what it does
abbrev pub NothingIsToldByTheClock : Type 0
NothingIsToldByTheClock = (inv : Configuration) (w : World) (e : Entry) → tells_by_clock inv ≡ false → recovers_the_told inv ≡ false → step inv w e ≡ acted inv w e

-- ---- nobody is forgotten

-- with the option, after any entry, a test holds back the next PROBLEM of each object whose code is not 0
abbrev pub NobodyIsForgotten : Type 0
NobodyIsForgotten = (inv : Configuration) (w : World) (e : Entry) (object : ℕ) (spec : ObjectSpec) (o : Object) → tells_by_clock inv ≡ true →
    slice_get inv.objects object ≡ Some spec → slice_get (step inv w e).0.objects object ≡ Some o → o.status.code ≢ 0 →
    withheld inv (step inv w e).0 Clock object ≢ None
