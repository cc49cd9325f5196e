-- Hard and soft states, and the change that a check result makes.
use Rattle.std.specs.Prelude.{◌≡◌, ℕ, ◌+◌, ◌<◌, ◌≤◌, ◌==◌, ◌||◌, ◌&&◌, not, nat_le, Bool, true, false, if◌then◌else◌}
use Rattle.mon_checks.specs.declared.status.Status.{Status}
use Rattle.mon_checks.specs.declared.transition.Change.{Change}

-- the status of an object that has had no result
abbrev pub first_status : Bool → Status
first_status service = record { service = service; code = 0; hard = true; attempt = 1 }

-- the code is one of the object's kind: three for a host, four for a service
abbrev pub IsCodeOf : Bool → ℕ → Type 0
IsCodeOf service code = code < (if service then 4 else 3)

-- the state is of type hard at this attempt
abbrev pub hard_at : Status → ℕ → ℕ → Status
hard_at old code attempt = record { service = old.service; code = code; hard = true; attempt = attempt }

-- a problem of a service may be soft while its host is up, one of a host where hosts may be soft
abbrev pub may_be_soft : Status → (host_up soft_hosts : Bool) → Bool
may_be_soft old host_up soft_hosts = if old.service then host_up else soft_hosts

-- the type of a problem at this attempt: hard at the greatest attempt, and below it unless it may be soft
abbrev pub problem_at : Status → ℕ → (host_up soft_hosts : Bool) → (max attempt : ℕ) → Status
problem_at old code host_up soft_hosts max attempt = record {
  service = old.service;
  code = code;
  hard = nat_le max attempt || not (may_be_soft old host_up soft_hosts);
  attempt = attempt;
}

-- the table of the states, one line a row: no problem now; a problem that begins; a hard one that stays; a soft one
-- that continues
abbrev pub status_after : Status → ℕ → (host_up soft_hosts : Bool) → ℕ → Status
status_after old code host_up soft_hosts max =
    if code == 0 then hard_at old code 1
    else (if old.code == 0 then problem_at old code host_up soft_hosts max 1
    else (if old.hard then hard_at old code old.attempt
    else problem_at old code host_up soft_hosts max (old.attempt + 1)))

-- a problem ends
abbrev pub recovers : Status → ℕ → Bool
recovers old code = not (old.code == 0) && (code == 0)

-- what the result changed
abbrev pub change_by : Status → ℕ → Change
change_by old code = record {
  code_changed = not (old.code == code);
  recovered = recovers old code;
  hard_recovery = recovers old code && old.hard;
}

-- a status as results leave it: its attempt is from 1 to the greatest, and below that while soft
pub record IsWithin (max : ℕ) (status : Status) : Type 0 where
  pub first : 1 ≤ status.attempt
  pub last : status.attempt ≤ max
  pub soft : status.hard ≡ false → status.attempt < max
