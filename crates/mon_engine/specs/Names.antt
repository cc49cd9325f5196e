-- Whom or what a command names, by its index. A name that is not there rejects the command, the host's before the
-- service's.
use Rattle.std.specs.Prelude.{◌≡◌, ℕ, List, Option, Some, None, Result, Ok, Err}
use Rattle.cmd_types.specs.Names.{Names, NoName, ContactName, HostName, ServiceName}
use Rattle.mon_inventory.specs.Configuration.{Configuration}
use Rattle.mon_inventory.specs.Lists.{StandsAt}
use Rattle.mon_inventory.specs.Lookups.{contact_of, host_of, service_of, IsContactNamed, IsHostNamed, IsServiceNamed}
use Rattle.mon_engine.specs.declared.outcome.Reason.{Reason}
use Rattle.mon_engine.specs.declared.target.FoundTarget.{FoundTarget}
use Rattle.mon_engine.specs.declared.target.FoundTarget.TheVariants.{Program, Contact, Object}
use Rattle.mon_engine.specs.declared.outcome.Reason.TheVariants.{UnknownHost, UnknownService, UnknownContact}

-- an index that was found, or the reason that there is none
abbrev pub known : Reason → Option ℕ → Result ℕ Reason
known why None = Err why
known why (Some n) = Ok n

-- the index of a host, by its name
abbrev pub host_index : Configuration → List ℕ → Result ℕ Reason
host_index inv host = known UnknownHost (host_of inv.objects host)

-- the index of a service, where its host was found
abbrev pub service_behind : Configuration → List ℕ → List ℕ → Result ℕ Reason → Result ℕ Reason
service_behind inv host service (Err why) = Err why
service_behind inv host service (Ok h) = known UnknownService (service_of inv.objects host service)

-- the index of a service, by the names of its host and its own
abbrev pub service_index : Configuration → List ℕ → List ℕ → Result ℕ Reason
service_index inv host service = service_behind inv host service (host_index inv host)

-- the index of a contact, by its name
abbrev pub contact_index : Configuration → List ℕ → Result ℕ Reason
contact_index inv contact = known UnknownContact (contact_of inv.contacts contact)

-- the index that the names stand for, the command's target; 0 where a command names nothing
abbrev pub target_of : Configuration → Names → Result ℕ Reason
target_of inv NoName = Ok 0
target_of inv (ContactName contact) = contact_index inv contact
target_of inv (HostName host) = host_index inv host
target_of inv (ServiceName host service) = service_index inv host service

-- ---- of private contracts alone

-- why a service is not found
abbrev pub why_none : Option ℕ → Reason
why_none None = UnknownHost
why_none (Some host) = UnknownService

-- the index of the code's target, 0 for the program
abbrev pub index : FoundTarget → ℕ
index Program = 0
index (Contact contact) = contact
index (Object object) = object

-- the target is the program
abbrev pub IsProgram : FoundTarget → Type 0
IsProgram Program = Unit {0}
IsProgram target = ⊥

-- the target is a contact
abbrev pub IsContact : FoundTarget → Type 0
IsContact (Contact contact) = Unit {0}
IsContact target = ⊥

-- the target is a host or a service
abbrev pub IsObject : FoundTarget → Type 0
IsObject (Object object) = Unit {0}
IsObject target = ⊥

-- what the code found is of the kind that is named
abbrev pub IsOf : Names → FoundTarget → Type 0
IsOf NoName target = IsProgram target
IsOf (ContactName contact) target = IsContact target
IsOf (HostName host) target = IsObject target
IsOf (ServiceName host service) target = IsObject target

-- what is named was found, or is not there
abbrev pub Finds : Configuration → Names → Result FoundTarget Reason → Type 0
Finds inv names (Ok target) = IsOf names target × (target_of inv names ≡ Ok (index target))
Finds inv names (Err why) = target_of inv names ≡ Err why

-- the target is there under its name
abbrev pub IsTarget : Configuration → Names → ℕ → Type 0
IsTarget inv NoName target = Unit {0}
IsTarget inv (ContactName contact) target = StandsAt (IsContactNamed contact) inv.contacts target
IsTarget inv (HostName host) target = StandsAt (IsHostNamed host) inv.objects target
IsTarget inv (ServiceName host service) target = StandsAt (IsServiceNamed host service) inv.objects target
