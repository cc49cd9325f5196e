-- The downtimes that were ever scheduled, in order of their ids.
use Rattle.std.specs.Prelude.{◌≡◌, ℕ, ◌+◌, ◌≤◌, ◌==◌, ◌&&◌, Bool, true, false, if◌then◌else◌, List, [], ◌∷◌, Option, Some, None, find, map, count_by}
use Rattle.cmd_types.specs.declared.limits.TheConstants.{GREATEST_NUMBER}
use Rattle.mon_downtime.specs.declared.downtime.Downtime.{Downtime}
use Rattle.mon_downtime.specs.declared.downtime.Fate.{Fate}
use Rattle.mon_downtime.specs.declared.downtime.Fate.TheVariants.{Pending, Active, Over}

-- the record with an id
abbrev pub record_of : List Downtime → ℕ → Option Downtime
record_of ds id = find (λ d. d.id == id) ds

-- the downtime ended, expired or was cancelled
abbrev pub is_over : Fate → Bool
is_over Pending = false
is_over (Active since until) = false
is_over Over = true

-- the downtime has started and is not over
abbrev pub is_active : Fate → Bool
is_active Pending = false
is_active (Active since until) = true
is_active Over = false

-- the downtime is there, and is not over
abbrev pub is_live_record : Option Downtime → Bool
is_live_record None = false
is_live_record (Some d) = if is_over d.fate then false else true

-- a downtime has this id, and is not over
abbrev pub is_live : List Downtime → ℕ → Bool
is_live ds id = is_live_record (record_of ds id)

-- how many downtimes of the object are active
abbrev pub depth_of : List Downtime → ℕ → ℕ
depth_of ds object = count_by (λ d. (d.object == object) && is_active d.fate) ds

-- the downtime, with another fate where it has this id
abbrev pub changed : ℕ → (Downtime → Fate) → Downtime → Downtime
changed id f d = if d.id == id then record d { fate = f d } else d

-- the records, with another fate for one of them
abbrev pub with_fate : List Downtime → ℕ → (Downtime → Fate) → List Downtime
with_fate ds id f = map (changed id f) ds

-- the moments of a fate are in the ranges that commands can lead to
abbrev pub IsSmallFate : Fate → Type 0
IsSmallFate Pending = Unit {0}
IsSmallFate (Active since until) = (since ≤ GREATEST_NUMBER) × (until ≤ GREATEST_NUMBER + GREATEST_NUMBER)
IsSmallFate Over = Unit {0}

-- a record after n others: it has the next id, and its trigger is an earlier one or 0
pub record IsNumbered (n : ℕ) (d : Downtime) : Type 0 where
  pub id_next : d.id ≡ n + 1
  pub trigger_earlier : d.plan.times.trigger_id ≤ n

-- all records ever scheduled, in order, of which n are left out at the front
abbrev pub AreNumbered : ℕ → List Downtime → Type 0
AreNumbered n [] = Unit {0}
AreNumbered n (d ∷ ds) = IsNumbered n d × AreNumbered (n + 1) ds

-- a numbered record whose numbers are in the range of a command's
pub record IsRecord (n : ℕ) (d : Downtime) : Type 0 where
  pub numbered : IsNumbered n d
  pub start_small : d.plan.times.start_time ≤ GREATEST_NUMBER
  pub end_small : d.plan.times.end_time ≤ GREATEST_NUMBER
  pub duration_small : d.plan.times.duration ≤ GREATEST_NUMBER
  pub entered_small : d.entered ≤ GREATEST_NUMBER
  pub fate_small : IsSmallFate d.fate

-- all records ever scheduled by commands, in order, of which n are left out at the front
abbrev pub AreRecords : ℕ → List Downtime → Type 0
AreRecords n [] = Unit {0}
AreRecords n (d ∷ ds) = IsRecord n d × AreRecords (n + 1) ds
