-- The records of an inventory's lines together: the faults of each line by the lines before it, and what it adds.
use Rattle.std.specs.Prelude.{ℕ, ◌+◌, Bool, false, List, [], ◌∷◌, ◌++◌, length, Option, Some, None, unwrap_or, Result, Ok, Err, is_some, is_none, not, nat_le, true, get_or, set, ◌==◌, ◌&&◌, if◌then◌else◌}
use Rattle.std.specs.List.{list_any, find, filter, filter_map, fold}
use Rattle.std.specs.Str.{bytes_eq}
use Rattle.cmd_types.specs.TextLines.{split_lines}
use Rattle.cmd_types.specs.Bytes.{without_returns}
use Rattle.mon_inventory.specs.declared.fault.Cause.{Cause}
use Rattle.mon_inventory.specs.declared.fault.Cause.TheVariants.{BadForm, BadNumber, BadOption, Duplicate, UnknownHost, UnknownService, UnknownContact, TooMany, Memory}
use Rattle.mon_inventory.specs.declared.limits.TheConstants.{MOST_CONTACTS, MOST_OBJECTS, MOST_ESCALATIONS}
use Rattle.mon_inventory.specs.declared.records.ContactSpec.{ContactSpec}
use Rattle.mon_inventory.specs.declared.records.ObjectSpec.{ObjectSpec}
use Rattle.mon_inventory.specs.declared.records.Escalation.{Escalation}
use Rattle.mon_inventory.specs.declared.records.OptionSpec.{OptionSpec}
use Rattle.mon_inventory.specs.declared.records.Directives.{Directives}
use Rattle.mon_inventory.specs.Texts.{items}
use Rattle.mon_inventory.specs.Line.{Form, ContactForm, HostForm, ServiceForm, EscalationForm, OptionForm, SettleForm, DelayForm, VolatileForm, NoForm, form, is_empty, value_of, is_on, letters, passive_host_checks_are_soft, tell_by_clock, recover_the_told, has_bad_form, has_bad_number, has_bad_option}
use Rattle.mon_inventory.specs.Lookups.{contact_of, host_of, service_of}

-- contacts, objects, escalations and options, each under its index, from 0 in order of their lines; the directives of
-- each object, under the object's index; and the seconds to settle, where a line sets them
pub record Configuration : Type 0 where
  pub contacts : List ContactSpec
  pub objects : List ObjectSpec
  pub escalations : List Escalation
  pub options : List OptionSpec
  pub directives : List Directives
  pub settle : Option ℕ

-- an inventory of no lines
abbrev pub nothing : Configuration
nothing = record { contacts = []; objects = []; escalations = []; options = []; directives = []; settle = None }

-- whether a line turns the option of this name on or off; none where no line sets it
abbrev pub said_of : List OptionSpec → (name : List ℕ) → Option Bool
said_of [] name = None
said_of (o ∷ options) name = if bytes_eq o.name name then Some o.on else said_of options name

-- an option is off where no line sets it
abbrev pub option_is_on : Configuration → (name : List ℕ) → Bool
option_is_on k name = unwrap_or (said_of k.options name) false

-- the option `passive_host_checks_are_soft` is on
abbrev pub passive_hosts_soft : Configuration → Bool
passive_hosts_soft k = option_is_on k passive_host_checks_are_soft

-- the option `tell_by_clock` is on
abbrev pub tells_by_clock : Configuration → Bool
tells_by_clock k = option_is_on k tell_by_clock

-- the option `recover_the_told` is on
abbrev pub recovers_the_told : Configuration → Bool
recovers_the_told k = option_is_on k recover_the_told

-- the object of these names, where it is there: the host itself where no service is named
abbrev pub object_of : Configuration → (host service : List ℕ) → Option ℕ
object_of k host service = if is_empty service then host_of k.objects host else service_of k.objects host service

-- those of an object for which no line sets any
abbrev pub no_directives : Directives
no_directives = record { first_notification_delay = None; is_volatile = false }

-- those of an object that was looked up: none where it is not there
abbrev pub directives_at : Configuration → Option ℕ → Directives
directives_at k None = no_directives
directives_at k (Some object) = get_or k.directives object no_directives

-- ---- the faults of a line by the lines before it

-- an earlier line defines the name of this one, or sets its option, the seconds to settle or its object's directive
abbrev pub is_duplicate : Configuration → Form → Bool
is_duplicate k (ContactForm name hosts services) = is_some (contact_of k.contacts name)
is_duplicate k (HostForm name max interval options contacts) = is_some (host_of k.objects name)
is_duplicate k (ServiceForm host name max interval options contacts) = is_some (service_of k.objects host name)
is_duplicate k (OptionForm name value) = is_some (said_of k.options name)
is_duplicate k (SettleForm seconds) = is_some k.settle
is_duplicate k (DelayForm host service seconds) = is_some (directives_at k (object_of k host service)).first_notification_delay
is_duplicate k (VolatileForm host service) = (directives_at k (object_of k host service)).is_volatile
is_duplicate k _ = false

-- the line names a host that no earlier line defines
abbrev pub names_unknown_host : Configuration → Form → Bool
names_unknown_host k (ServiceForm host name max interval options contacts) = is_none (host_of k.objects host)
names_unknown_host k (EscalationForm host service first last interval options contacts) = is_none (host_of k.objects host)
names_unknown_host k (DelayForm host service seconds) = is_none (host_of k.objects host)
names_unknown_host k (VolatileForm host service) = is_none (host_of k.objects host)
names_unknown_host k _ = false

-- the line names a service that no earlier line defines
abbrev pub names_unknown_service : Configuration → Form → Bool
names_unknown_service k (EscalationForm host service first last interval options contacts) = not (is_empty service) && is_none (service_of k.objects host service)
names_unknown_service k (DelayForm host service seconds) = not (is_empty service) && is_none (service_of k.objects host service)
names_unknown_service k (VolatileForm host service) = not (is_empty service) && is_none (service_of k.objects host service)
names_unknown_service k _ = false

-- an item of a comma list is no contact's name
abbrev pub has_unknown_contact : Configuration → List ℕ → Bool
has_unknown_contact k text = list_any (λ name. is_none (contact_of k.contacts name)) (items text)

-- the line's list of contacts has a name that no earlier line defines
abbrev pub names_unknown_contact : Configuration → Form → Bool
names_unknown_contact k (HostForm name max interval options contacts) = has_unknown_contact k contacts
names_unknown_contact k (ServiceForm host name max interval options contacts) = has_unknown_contact k contacts
names_unknown_contact k (EscalationForm host service first last interval options contacts) = has_unknown_contact k contacts
names_unknown_contact k _ = false

-- there are as many records of the line's kind as there may be
abbrev pub is_too_many : Configuration → Form → Bool
is_too_many k (ContactForm name hosts services) = nat_le MOST_CONTACTS (length k.contacts)
is_too_many k (HostForm name max interval options contacts) = nat_le MOST_OBJECTS (length k.objects)
is_too_many k (ServiceForm host name max interval options contacts) = nat_le MOST_OBJECTS (length k.objects)
is_too_many k (EscalationForm host service first last interval options contacts) = nat_le MOST_ESCALATIONS (length k.escalations)
is_too_many k _ = false

-- ---- the cause of a line's fault

-- whether a line has this fault
abbrev pub has : Configuration → Form → Cause → Bool
has k f BadForm = has_bad_form f
has k f BadNumber = has_bad_number f
has k f BadOption = has_bad_option f
has k f Duplicate = is_duplicate k f
has k f UnknownHost = names_unknown_host k f
has k f UnknownService = names_unknown_service k f
has k f UnknownContact = names_unknown_contact k f
has k f TooMany = is_too_many k f
has k f Memory = false

-- the causes in the order of the tests
abbrev pub causes : List Cause
causes = BadForm ∷ BadNumber ∷ BadOption ∷ Duplicate ∷ UnknownHost ∷ UnknownService ∷ UnknownContact ∷ TooMany ∷ []

-- the first of the line's faults; an empty line has none
abbrev pub cause_of : Configuration → List ℕ → Option Cause
cause_of k line = if is_empty (without_returns line) then None else find (has k (form line)) causes

-- ---- what a line without a fault adds. Of one with a fault it is not asked

-- each index once, where it comes first
abbrev pub first_mentions : List ℕ → List ℕ
first_mentions [] = []
first_mentions (n ∷ indices) = n ∷ filter (λ m. not (m == n)) (first_mentions indices)

-- the contacts that a comma list names
abbrev pub contacts_named : Configuration → List ℕ → List ℕ
contacts_named k text = first_mentions (filter_map (contact_of k.contacts) (items text))

-- the object of these names, which is there
abbrev pub object_named : Configuration → List ℕ → List ℕ → ℕ
object_named k host service = unwrap_or (object_of k host service) 0

-- the records that the kinds of lines make
abbrev pub contact_made : (name hosts services : List ℕ) → ContactSpec
contact_made name hosts services = record { name = name; host_letters = letters hosts; service_letters = letters services }

abbrev pub host_made : Configuration → (name max interval options contacts : List ℕ) → ObjectSpec
host_made k name max interval options contacts = record {
  host = name;
  service = None;
  host_object = length k.objects;
  max = value_of max;
  interval = value_of interval;
  letters = letters options;
  contacts = contacts_named k contacts;
}

abbrev pub service_made : Configuration → (host name max interval options contacts : List ℕ) → ObjectSpec
service_made k host name max interval options contacts = record {
  host = host;
  service = Some name;
  host_object = unwrap_or (host_of k.objects host) 0;
  max = value_of max;
  interval = value_of interval;
  letters = letters options;
  contacts = contacts_named k contacts;
}

abbrev pub escalation_made : Configuration → (host service first last interval options contacts : List ℕ) → Escalation
escalation_made k host service first last interval options contacts = record {
  object = object_named k host service;
  first = value_of first;
  last = value_of last;
  interval = value_of interval;
  letters = letters options;
  contacts = contacts_named k contacts;
}

abbrev pub option_made : (name value : List ℕ) → OptionSpec
option_made name value = record { name = name; on = is_on value }

-- the inventory with one more record, at the end of its list; a new object has no directives
abbrev pub with_contact : Configuration → ContactSpec → Configuration
with_contact k c = record k { contacts = k.contacts ++ c ∷ [] }

abbrev pub with_object : Configuration → ObjectSpec → Configuration
with_object k o = record k { objects = k.objects ++ o ∷ []; directives = k.directives ++ no_directives ∷ [] }

abbrev pub with_escalation : Configuration → Escalation → Configuration
with_escalation k e = record k { escalations = k.escalations ++ e ∷ [] }

abbrev pub with_option : Configuration → OptionSpec → Configuration
with_option k o = record k { options = k.options ++ o ∷ [] }

-- the inventory with one more directive of an object
abbrev pub with_delay : Configuration → (object seconds : ℕ) → Configuration
with_delay k object seconds = record k { directives = set k.directives object (record (get_or k.directives object no_directives) { first_notification_delay = Some seconds }) }

abbrev pub with_volatile : Configuration → (object : ℕ) → Configuration
with_volatile k object = record k { directives = set k.directives object (record (get_or k.directives object no_directives) { is_volatile = true }) }

-- the inventory with the record of one more line
abbrev pub with_form : Configuration → Form → Configuration
with_form k (ContactForm name hosts services) = with_contact k (contact_made name hosts services)
with_form k (HostForm name max interval options contacts) = with_object k (host_made k name max interval options contacts)
with_form k (ServiceForm host name max interval options contacts) = with_object k (service_made k host name max interval options contacts)
with_form k (EscalationForm host service first last interval options contacts) = with_escalation k (escalation_made k host service first last interval options contacts)
with_form k (OptionForm name value) = with_option k (option_made name value)
with_form k (SettleForm seconds) = record k { settle = Some (value_of seconds) }
with_form k (DelayForm host service seconds) = with_delay k (object_named k host service) (value_of seconds)
with_form k (VolatileForm host service) = with_volatile k (object_named k host service)
with_form k NoForm = k

-- an empty line has no form
abbrev pub with_line : Configuration → List ℕ → Configuration
with_line k line = with_form k (form line)

-- ---- the text

-- the fault of line n, where it has one, or else the first of the later lines
abbrev pub or_later : ℕ → Option Cause → Option (ℕ × Cause) → Option (ℕ × Cause)
or_later n (Some cause) later = Some (n, cause)
or_later n None later = later

-- the first line with a fault and the cause, where the first of these is line n and k is the configuration before it
abbrev pub first_fault : ℕ → Configuration → List (List ℕ) → Option (ℕ × Cause)
first_fault n k [] = None
first_fault n k (line ∷ lines) = or_later n (cause_of k line) (first_fault (n + 1) (with_line k line) lines)

-- the inventory, where no line has a fault
abbrev pub unless_fault : Option (ℕ × Cause) → Configuration → Result Configuration (ℕ × Cause)
unless_fault None k = Ok k
unless_fault (Some f) k = Err f

-- what lines make together, or the first with a fault, counted from 1, and its cause
unfoldable pub inventory_of : List (List ℕ) → Result Configuration (ℕ × Cause)
inventory_of lines = unless_fault (first_fault 1 nothing lines) (fold with_line nothing lines)

-- what a text says. One that ends in a line feed has an empty last line, which says nothing
unfoldable pub inventory : List ℕ → Result Configuration (ℕ × Cause)
inventory text = inventory_of (split_lines text)
