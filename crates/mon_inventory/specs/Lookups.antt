-- The look-ups by name, and the services and escalations of an object.
use Rattle.std.specs.Prelude.{◌≡◌, ℕ, Bool, true, false, ◌&&◌, List, Option, Some, None, is_some, IsSome, ◌==◌, if◌then◌else◌}
use Rattle.std.specs.Str.{bytes_eq}
use Rattle.mon_inventory.specs.declared.records.ContactSpec.{ContactSpec}
use Rattle.mon_inventory.specs.declared.records.ObjectSpec.{ObjectSpec}
use Rattle.mon_inventory.specs.declared.records.OptionSpec.{OptionSpec}
use Rattle.mon_inventory.specs.declared.records.Escalation.{Escalation}
use Rattle.mon_inventory.specs.Lists.{index_where, indices_from}

-- ---- in words

-- the contact has this name
abbrev pub IsContactNamed : List ℕ → ContactSpec → Type 0
IsContactNamed name c = c.name ≡ name

-- the option has this name
abbrev pub IsOptionNamed : List ℕ → OptionSpec → Type 0
IsOptionNamed name o = o.name ≡ name

-- the option has this name, and is on
abbrev pub IsOptionOn : List ℕ → OptionSpec → Type 0
IsOptionOn name o = (o.name ≡ name) × (o.on ≡ true)

-- the object is the host of this name
abbrev pub IsHostNamed : List ℕ → ObjectSpec → Type 0
IsHostNamed name o = (o.service ≡ None) × (o.host ≡ name)

-- the object is the service of this name on the host of that name
abbrev pub IsServiceNamed : List ℕ → List ℕ → ObjectSpec → Type 0
IsServiceNamed host name o = (o.service ≡ Some name) × (o.host ≡ host)

-- a service of the host of this index
abbrev pub IsServiceOf : ℕ → ObjectSpec → Type 0
IsServiceOf host o = IsSome o.service × (o.host_object ≡ host)

-- the escalation is of the object of this index
abbrev pub IsEscalationOf : ℕ → Escalation → Type 0
IsEscalationOf object e = e.object ≡ object

-- ---- as tests

abbrev pub is_contact : List ℕ → ContactSpec → Bool
is_contact name c = bytes_eq name c.name

abbrev pub is_host : List ℕ → ObjectSpec → Bool
is_host name o = if is_some o.service then false else bytes_eq name o.host

abbrev pub is_named : ℕ → List ℕ → ℕ → Option (List ℕ) → Bool
is_named host name of None = false
is_named host name of (Some service) = (of == host) && bytes_eq name service

-- of the host of this index, by this name
abbrev pub is_service : ℕ → List ℕ → ObjectSpec → Bool
is_service host name o = is_named host name o.host_object o.service

abbrev pub is_service_of : ℕ → ObjectSpec → Bool
is_service_of host o = is_some o.service && (o.host_object == host)

abbrev pub is_escalation_of : ℕ → Escalation → Bool
is_escalation_of object e = e.object == object

-- ---- what they find

-- the index of the contact of this name
unfoldable pub contact_of : List ContactSpec → List ℕ → Option ℕ
contact_of contacts name = index_where (is_contact name) contacts

-- the index of the host of this name
unfoldable pub host_of : List ObjectSpec → List ℕ → Option ℕ
host_of objects name = index_where (is_host name) objects

-- the index of the service of this name on the host of this index
unfoldable pub service_at : List ObjectSpec → ℕ → List ℕ → Option ℕ
service_at objects host name = index_where (is_service host name) objects

-- the index of the service of this name on a host that was looked up
abbrev pub service_by : List ObjectSpec → Option ℕ → List ℕ → Option ℕ
service_by objects None name = None
service_by objects (Some host) name = service_at objects host name

-- the index of the service of this name on the host of that name
abbrev pub service_of : List ObjectSpec → List ℕ → List ℕ → Option ℕ
service_of objects host name = service_by objects (host_of objects host) name

-- the indices of a host's services, in order
unfoldable pub services_of : List ObjectSpec → ℕ → List ℕ
services_of objects host = indices_from (is_service_of host) 0 objects

-- the indices of an object's escalations, in order
unfoldable pub escalations_of : List Escalation → ℕ → List ℕ
escalations_of escalations object = indices_from (is_escalation_of object) 0 escalations
