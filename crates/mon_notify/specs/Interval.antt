-- How many seconds have to go by before the next notice of the same problem.
use Rattle.std.specs.Prelude.{ℕ, ◌==◌, ◌≤◌, if◌then◌else◌, min, List, map, fold, Option, Some, None, unwrap_or, slice_get, All, Contains}
use Rattle.mon_inventory.specs.Configuration.{Configuration}
use Rattle.mon_notify.specs.Letters.{letter_of}
use Rattle.mon_notify.specs.Objects.{is_service, own_interval}
use Rattle.mon_notify.specs.Escalations.{matching}

-- the lesser of a number and the least so far
abbrev pub lesser : Option ℕ → ℕ → Option ℕ
lesser None n = Some n
lesser (Some m) n = Some (min m n)

-- the least of these, if there is one
abbrev pub least_of : List ℕ → Option ℕ
least_of ns = fold lesser None ns

-- n is one of these numbers, and none is less
pub record IsLeast (ns : List ℕ) (n : ℕ) : Type 0 where
  pub among : Contains ns n
  pub least : All (λ m. n ≤ m) ns

-- the intervals of the escalations that match the number and the letter of the code
abbrev pub intervals : Configuration → ℕ → ℕ → ℕ → List ℕ
intervals k object number code = map (λ e. e.interval) (matching k object number (letter_of (is_service (slice_get k.objects object)) code))

-- the least of these intervals; where no escalation matches, or the code is 0, the object's own
unfoldable pub interval_in_force : Configuration → ℕ → ℕ → ℕ → ℕ
interval_in_force k object number code =
    if code == 0 then own_interval (slice_get k.objects object) else unwrap_or (least_of (intervals k object number code)) (own_interval (slice_get k.objects object))
