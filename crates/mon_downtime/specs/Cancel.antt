-- A downtime and all that depend on it through their triggers.
use Rattle.std.specs.Prelude.{◌≡◌, ℕ, ◌<◌, ◌==◌, ◌&&◌, ◌||◌, Bool, true, if◌then◌else◌, List, length, Option, Some, None, map, filter, zero, suc, Contains}
use Rattle.mon_downtime.specs.declared.downtime.Downtime.{Downtime}
use Rattle.mon_downtime.specs.declared.downtime.Fate.TheVariants.{Over}
use Rattle.mon_downtime.specs.Records.{record_of, is_active, AreNumbered}

-- the trigger of a downtime, where there is one, or 0
abbrev pub trigger_in : Option Downtime → ℕ
trigger_in None = 0
trigger_in (Some d) = d.plan.times.trigger_id

-- the trigger of a downtime, or 0
abbrev pub trigger_of : List Downtime → ℕ → ℕ
trigger_of ds x = trigger_in (record_of ds x)

-- from x, at most n links of triggers lead to id
unfoldable pub leads_to : ℕ → List Downtime → ℕ → ℕ → Bool
leads_to zero ds id x = x == id
leads_to (suc n) ds id x = (x == id) || leads_to n ds id (trigger_of ds x)

-- x is id, or depends on it; no chain is longer than the list
unfoldable pub depends : List Downtime → ℕ → ℕ → Bool
depends ds id x = leads_to (length ds) ds id x

-- the record is over, where it is id or depends on it
abbrev pub cancelled_record : List Downtime → ℕ → Downtime → Downtime
cancelled_record ds id d = if depends ds id d.id then record d { fate = Over } else d

-- the records, with id and its dependants over
unfoldable pub cancelled : List Downtime → ℕ → List Downtime
cancelled ds id = map (cancelled_record ds id) ds

-- the ids of the active ones among id and its dependants
unfoldable pub active_dependants : List Downtime → ℕ → List ℕ
active_dependants ds id = map (λ d. d.id) (filter (λ d. depends ds id d.id && is_active d.fate) ds)

-- a set with id, and with each downtime whose trigger is in the set
pub record IsClosed (ds : List Downtime) (id : ℕ) (has : ℕ → Bool) : Type 0 where
  pub itself : has id ≡ true
  pub through : (d : Downtime) → Contains ds d → has d.plan.times.trigger_id ≡ true → has d.id ≡ true

-- id and its dependants are the least set of this kind
abbrev pub DependantsAreLeast : Type 0
DependantsAreLeast = (ds : List Downtime) (id : ℕ) → AreNumbered 0 ds → 0 < id →
    IsClosed ds id (depends ds id) × ((has : ℕ → Bool) → IsClosed ds id has → (x : ℕ) → depends ds id x ≡ true → has x ≡ true)
