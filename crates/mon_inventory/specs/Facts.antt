-- What holds of each inventory that was read without a fault.
use Rattle.std.specs.Prelude.{◌≡◌, ◌≢◌, ℕ, ◌<◌, ◌≤◌, true, List, length, Option, Some, None, IfSome, slice_get, All}
use Rattle.std.specs.List.{AllPairs}
use Rattle.cmd_types.specs.declared.limits.TheConstants.{GREATEST_NUMBER}
use Rattle.mon_inventory.specs.declared.limits.TheConstants.{MOST_CONTACTS, MOST_OBJECTS, MOST_ESCALATIONS}
use Rattle.mon_inventory.specs.declared.records.ObjectSpec.{ObjectSpec}
use Rattle.mon_inventory.specs.declared.records.Escalation.{Escalation}
use Rattle.mon_inventory.specs.declared.records.Directives.{Directives}
use Rattle.mon_inventory.specs.Lists.{StandsAt, AtMostOne}
use Rattle.mon_inventory.specs.Line.{is_option}
use Rattle.mon_inventory.specs.Lookups.{IsContactNamed, IsHostNamed, IsServiceNamed, IsOptionNamed}
use Rattle.mon_inventory.specs.Configuration.{Configuration}

-- indices below this number of contacts, each once
pub record AreContacts (count : ℕ) (indices : List ℕ) : Type 0 where
  pub within : All (λ n. n < count) indices
  pub once : AllPairs ◌≢◌ indices

-- the object of this index, among these objects and this number of contacts
pub record IsObject (contact_count : ℕ) (objects : List ObjectSpec) (index : ℕ) (o : ObjectSpec) : Type 0 where
  pub max_least : 1 ≤ o.max
  pub max_small : o.max ≤ GREATEST_NUMBER
  pub interval_small : o.interval ≤ GREATEST_NUMBER
  -- the object's host is there under its name
  pub host_stands : StandsAt (IsHostNamed o.host) objects o.host_object
  -- a host is its own
  pub own_host : o.service ≡ None → o.host_object ≡ index
  pub contacts_stand : AreContacts contact_count o.contacts

-- an escalation, among these numbers of contacts and objects
pub record IsEscalation (contact_count object_count : ℕ) (e : Escalation) : Type 0 where
  pub object_stands : e.object < object_count
  pub first_small : e.first ≤ GREATEST_NUMBER
  pub last_small : e.last ≤ GREATEST_NUMBER
  pub interval_small : e.interval ≤ GREATEST_NUMBER
  pub contacts_stand : AreContacts contact_count e.contacts

-- where a line sets them, seconds of at least 1
abbrev pub AreSeconds : Option ℕ → Type 0
AreSeconds seconds = IfSome seconds (λ n. (1 ≤ n) × (n ≤ GREATEST_NUMBER))

-- the directives of an object
abbrev pub AreDirectives : Directives → Type 0
AreDirectives d = AreSeconds d.first_notification_delay

-- no limit is passed, each name is defined once, each option is set once and is known, and each record refers to
-- records that are there
pub record IsInventory (k : Configuration) : Type 0 where
  pub few_contacts : length k.contacts ≤ MOST_CONTACTS
  pub few_objects : length k.objects ≤ MOST_OBJECTS
  pub few_escalations : length k.escalations ≤ MOST_ESCALATIONS
  pub contacts_once : (name : List ℕ) → AtMostOne (IsContactNamed name) k.contacts
  pub hosts_once : (name : List ℕ) → AtMostOne (IsHostNamed name) k.objects
  pub services_once : (host name : List ℕ) → AtMostOne (IsServiceNamed host name) k.objects
  pub options_once : (name : List ℕ) → AtMostOne (IsOptionNamed name) k.options
  pub options_known : All (λ o. is_option o.name ≡ true) k.options
  pub objects : (index : ℕ) (o : ObjectSpec) → slice_get k.objects index ≡ Some o → IsObject (length k.contacts) k.objects index o
  pub escalations : All (IsEscalation (length k.contacts) (length k.objects)) k.escalations
  -- each object has its own
  pub directives_many : length k.directives ≡ length k.objects
  pub directives : All AreDirectives k.directives
  pub settle : AreSeconds k.settle
