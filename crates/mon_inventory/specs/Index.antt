-- An index, as the configuration that it holds, and what its maps and lists of indices tell.
use Rattle.std.specs.Prelude.{◌≡◌, ℕ, ◌≤◌, [], ◌∷◌, ◌++◌, get_or, length}
use Rattle.mon_inventory.specs.declared.records.ObjectSpec.{ObjectSpec}
use Rattle.mon_inventory.specs.declared.index.Index.{Index}
use Rattle.mon_inventory.specs.declared.limits.TheConstants.{MOST_CONTACTS, MOST_OBJECTS, MOST_ESCALATIONS}
use Rattle.mon_inventory.specs.Configuration.{Configuration, no_directives}
use Rattle.mon_inventory.specs.Facts.{IsInventory}
use Rattle.mon_inventory.specs.Lookups.{contact_of, host_of, services_of, escalations_of}
use Rattle.mon_inventory.specs.Names.{Tells, TellServices}

-- the records that an index holds
abbrev pub configuration : Index → Configuration
configuration a = record { contacts = a.contacts.items; objects = a.objects.items; escalations = a.escalations.items; options = a.options.items; directives = a.directives.items; settle = a.settle }

-- the maps and lists of the index tell what its records say
pub record IsIndexed (a : Index) : Type 0 where
  pub contacts_named : Tells a.contact_names (contact_of a.contacts.items)
  pub hosts_named : Tells a.host_names (host_of a.objects.items)
  pub services_named : TellServices a.objects.items a.service_names.items
  pub names_many : length a.service_names.items ≡ length a.objects.items
  pub services_told : (host : ℕ) → get_or a.services.items host [] ≡ services_of a.objects.items host
  pub services_many : length a.services.items ≡ length a.objects.items
  pub escalations_told : (object : ℕ) → get_or a.object_escalations.items object [] ≡ escalations_of a.escalations.items object
  pub escalations_many : length a.object_escalations.items ≡ length a.objects.items
  pub directives_many : length a.directives.items ≡ length a.objects.items
  pub few_contacts : length a.contacts.items ≤ MOST_CONTACTS
  pub few_objects : length a.objects.items ≤ MOST_OBJECTS
  pub few_escalations : length a.escalations.items ≤ MOST_ESCALATIONS

-- the index of a text that was read to its end
pub record IsWhole (a : Index) : Type 0 where
  pub indexed : IsIndexed a
  pub inventory : IsInventory (configuration a)

-- ---- of private contracts alone

-- one more object, without services, escalations and directives
pub record AddsObject (a b : Index) (o : ObjectSpec) : Type 0 where
  pub objects : b.objects.items ≡ a.objects.items ++ o ∷ []
  pub service_names : b.service_names.items ≡ a.service_names.items ++ [] ∷ []
  pub services : b.services.items ≡ a.services.items ++ [] ∷ []
  pub object_escalations : b.object_escalations.items ≡ a.object_escalations.items ++ [] ∷ []
  pub host_names : b.host_names ≡ a.host_names
  pub contacts : b.contacts ≡ a.contacts
  pub contact_names : b.contact_names ≡ a.contact_names
  pub escalations : b.escalations ≡ a.escalations
  pub options : b.options ≡ a.options
  pub directives : b.directives.items ≡ a.directives.items ++ no_directives ∷ []
  pub settle : b.settle ≡ a.settle
