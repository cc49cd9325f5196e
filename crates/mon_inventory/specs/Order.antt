-- The lines and their records: each object, contact, escalation and option is what its line says, in order of the
-- lines, and so are directives and the seconds to settle.
use Rattle.std.specs.Prelude.{◌≡◌, ℕ, ◌≤◌, Bool, false, ◌==◌, if◌then◌else◌, length, take, List, [], Option, Some, None, Ok, map}
use Rattle.std.specs.List.{filter_map, cons_option, list_any}
use Rattle.mon_inventory.specs.declared.letters.Letters.{Letters}
use Rattle.mon_inventory.specs.declared.records.ContactSpec.{ContactSpec}
use Rattle.mon_inventory.specs.declared.records.ObjectSpec.{ObjectSpec}
use Rattle.mon_inventory.specs.declared.records.Escalation.{Escalation}
use Rattle.mon_inventory.specs.declared.records.OptionSpec.{OptionSpec}
use Rattle.mon_inventory.specs.Lists.{IsBeginning}
use Rattle.mon_inventory.specs.Line.{Form, ContactForm, HostForm, ServiceForm, EscalationForm, OptionForm, SettleForm, DelayForm, VolatileForm, form, value_of, is_on, letters}
use Rattle.mon_inventory.specs.Configuration.{Configuration, object_of, directives_at, inventory_of}

-- a contact is all that its line says
abbrev pub contact_said : Form → Option ContactSpec
contact_said (ContactForm name hosts services) = Some (record { name = name; host_letters = letters hosts; service_letters = letters services })
contact_said _ = None

-- an object without the indices that it refers to
pub record OwnObject : Type 0 where
  pub host : List ℕ
  pub service : Option (List ℕ)
  pub max : ℕ
  pub interval : ℕ
  pub letters : Letters

-- the object without the indices that it refers to
abbrev pub own_object : ObjectSpec → OwnObject
own_object o = record { host = o.host; service = o.service; max = o.max; interval = o.interval; letters = o.letters }

-- an object is all that its line says, but for these indices
abbrev pub object_said : Form → Option OwnObject
object_said (HostForm name max interval options contacts) = Some (record { host = name; service = None; max = value_of max; interval = value_of interval; letters = letters options })
object_said (ServiceForm host name max interval options contacts) = Some (record { host = host; service = Some name; max = value_of max; interval = value_of interval; letters = letters options })
object_said _ = None

-- an escalation without the indices that it refers to
pub record OwnEscalation : Type 0 where
  pub first : ℕ
  pub last : ℕ
  pub interval : ℕ
  pub letters : Letters

-- the escalation without the indices that it refers to
abbrev pub own_escalation : Escalation → OwnEscalation
own_escalation e = record { first = e.first; last = e.last; interval = e.interval; letters = e.letters }

-- an escalation is all that its line says, but for these indices
abbrev pub escalation_said : Form → Option OwnEscalation
escalation_said (EscalationForm host service first last interval options contacts) = Some (record { first = value_of first; last = value_of last; interval = value_of interval; letters = letters options })
escalation_said _ = None

-- an option is all that its line says
abbrev pub option_said : Form → Option OptionSpec
option_said (OptionForm name value) = Some (record { name = name; on = is_on value })
option_said _ = None

-- the seconds to settle are those of their line
abbrev pub settle_said : Form → Option ℕ
settle_said (SettleForm seconds) = Some (value_of seconds)
settle_said _ = None

-- what was looked up is the object of this index
abbrev pub is_index : ℕ → Option ℕ → Bool
is_index object None = false
is_index object (Some n) = n == object

-- the first notification delay that a line sets for the object of this index
abbrev pub delay_said : Configuration → (object : ℕ) → Form → Option ℕ
delay_said k object (DelayForm host service seconds) = if is_index object (object_of k host service) then Some (value_of seconds) else None
delay_said k object _ = None

-- a line makes the object of this index volatile
abbrev pub makes_volatile : Configuration → (object : ℕ) → Form → Bool
makes_volatile k object (VolatileForm host service) = is_index object (object_of k host service)
makes_volatile k object _ = false

-- the records are those of the lines, in order of the lines
pub record AreInOrder (lines : List (List ℕ)) (k : Configuration) : Type 0 where
  pub contacts : k.contacts ≡ filter_map (λ line. contact_said (form line)) lines
  pub objects : map own_object k.objects ≡ filter_map (λ line. object_said (form line)) lines
  pub escalations : map own_escalation k.escalations ≡ filter_map (λ line. escalation_said (form line)) lines
  pub options : k.options ≡ filter_map (λ line. option_said (form line)) lines
  pub settle : cons_option k.settle [] ≡ filter_map (λ line. settle_said (form line)) lines
  pub delays : (object : ℕ) → cons_option (directives_at k (Some object)).first_notification_delay [] ≡ filter_map (λ line. delay_said k object (form line)) lines
  pub volatile : (object : ℕ) → (directives_at k (Some object)).is_volatile ≡ list_any (λ line. makes_volatile k object (form line)) lines

-- each record of before is there after, under its index; later lines may set directives of its object
pub record Extends (before after : Configuration) : Type 0 where
  pub contacts : IsBeginning before.contacts after.contacts
  pub objects : IsBeginning before.objects after.objects
  pub escalations : IsBeginning before.escalations after.escalations
  pub options : IsBeginning before.options after.options
  pub directives : length before.directives ≤ length after.directives

-- the records of the first `count` lines are the beginning of those of all lines
pub record GrowsTo (lines : List (List ℕ)) (count : ℕ) (k : Configuration) : Type 0 where
  pub so_far : Configuration
  pub made : inventory_of (take count lines) ≡ Ok so_far
  pub kept : Extends so_far k
