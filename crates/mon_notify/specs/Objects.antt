-- The kind, the contacts and the interval of the object at an index.
use Rattle.std.specs.Prelude.{ℕ, Bool, false, List, [], Option, Some, None, is_some}
use Rattle.mon_inventory.specs.declared.records.ObjectSpec.{ObjectSpec}

-- the object is a service, and not a host
abbrev pub is_service : Option ObjectSpec → Bool
is_service None = false
is_service (Some o) = is_some o.service

-- the contacts in the object's own line
abbrev pub own_contacts : Option ObjectSpec → List ℕ
own_contacts None = []
own_contacts (Some o) = o.contacts

-- the notification interval in the object's own line
abbrev pub own_interval : Option ObjectSpec → ℕ
own_interval None = 0
own_interval (Some o) = o.interval
