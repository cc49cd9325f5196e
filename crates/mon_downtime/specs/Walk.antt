-- The walk over all that depends on a downtime, by the links.
use Rattle.std.specs.Prelude.{◌≡◌, ℕ, ◌-◌, ◌<◌, ◌≤◌, ◌==◌, ◌&&◌, ◌||◌, not, Bool, true, false, if◌then◌else◌, List, length, map, zero, suc}
use Rattle.mon_downtime.specs.declared.downtime.Downtime.{Downtime}
use Rattle.mon_downtime.specs.declared.links.Link.{Link}
use Rattle.mon_downtime.specs.Cancel.{trigger_of, depends}
use Rattle.mon_downtime.specs.Links.{is_marked}

-- ---- of private contracts alone

-- a trigger, or 0 where it is marked, since all that depend on it are over
abbrev pub trigger_walked : List Link → ℕ → ℕ
trigger_walked links trigger = if is_marked links trigger then 0 else trigger

-- the record, without its trigger where that is marked
abbrev pub walked_record : List Link → Downtime → Downtime
walked_record links d = record d { plan = record d.plan { times = record d.plan.times { trigger_id = trigger_walked links d.plan.times.trigger_id } } }

-- the records as the walk goes over them: none is below one that is marked
unfoldable pub walked : List Downtime → List Link → List Downtime
walked ds links = map (walked_record links) ds

-- y is one of the records up to k that have this trigger, or depends on one of them
unfoldable pub is_under : List Downtime → (trigger k y : ℕ) → Bool
is_under ds trigger zero y = false
is_under ds trigger (suc k) y = ((trigger_of ds (suc k) == trigger) && depends ds (suc k) y) || is_under ds trigger k y

-- y is after x in the walk: under an earlier record with the trigger of x, or after that trigger, and so on up to id,
-- at most n triggers
unfoldable pub is_behind : ℕ → List Downtime → (id x y : ℕ) → Bool
is_behind zero ds id x y = false
is_behind (suc n) ds id x y = if x == id then false else (is_under ds (trigger_of ds x) (x - 1) y || is_behind n ds id (trigger_of ds x) y)

-- y is left at x: it depends on x or is after it; at 0 none is left
unfoldable pub is_left : List Downtime → (id x y : ℕ) → Bool
is_left ds id x y = not (x == 0) && (depends ds x y || is_behind (length ds) ds id x y)

-- from x the walk moves to next, or is at its end with 0: of those left at x all but x are left at next, and x is not
pub record GoesOn (ds : List Downtime) (id x next : ℕ) : Type 0 where
  pub within : next ≤ length ds
  pub one : 0 < next → depends ds id next ≡ true
  pub left : (y : ℕ) → is_left ds id x y ≡ ((y == x) || is_left ds id next y)
  pub once : is_left ds id next x ≡ false
