-- A form as the code holds it, without where its texts lie in memory, and a form that has no fault.
use Rattle.std.specs.Prelude.{◌≡◌, ℕ, false, ◌||◌, codes, List, Option, Some, None}
use Rattle.std.specs.List.{list_any}
use Rattle.std.specs.Str.{bytes_eq}
use Rattle.mon_inventory.specs.declared.letters.Letters.{Letters}
use Rattle.mon_inventory.specs.declared.letters.OptionsOf.{OptionsOf}
use Rattle.mon_inventory.specs.declared.letters.OptionsOf.TheVariants as kinds
use Rattle.mon_inventory.specs.declared.form.ContactForm.{ContactForm}
use Rattle.mon_inventory.specs.declared.form.HostForm.{HostForm}
use Rattle.mon_inventory.specs.declared.form.ServiceForm.{ServiceForm}
use Rattle.mon_inventory.specs.declared.form.EscalationForm.{EscalationForm}
use Rattle.mon_inventory.specs.declared.form.OptionForm.{OptionForm}
use Rattle.mon_inventory.specs.declared.form.SettleForm.{SettleForm}
use Rattle.mon_inventory.specs.declared.form.DelayForm.{DelayForm}
use Rattle.mon_inventory.specs.declared.form.VolatileForm.{VolatileForm}
use Rattle.mon_inventory.specs.declared.form.Form.{Form}
use Rattle.mon_inventory.specs.declared.form.Form.TheVariants as held
use Rattle.mon_inventory.specs.declared.outer_faults.KnownNames.{KnownNames}
use Rattle.mon_inventory.specs.Line as line
use Rattle.mon_inventory.specs.Lookups.{contact_of, host_of, service_of}
use Rattle.mon_inventory.specs.Configuration.{Configuration, object_of, is_duplicate, names_unknown_host, names_unknown_service, names_unknown_contact, is_too_many}

-- ---- of private contracts alone

-- the fields of each kind of line, without where they lie in memory
abbrev pub seen_contact : ContactForm → line.Form
seen_contact f = line.ContactForm f.name.now f.host_options.now f.service_options.now

abbrev pub seen_host : HostForm → line.Form
seen_host f = line.HostForm f.name.now f.max.now f.interval.now f.options.now f.contacts.now

abbrev pub seen_service : ServiceForm → line.Form
seen_service f = line.ServiceForm f.host.now f.name.now f.max.now f.interval.now f.options.now f.contacts.now

abbrev pub seen_escalation : EscalationForm → line.Form
seen_escalation f = line.EscalationForm f.host.now f.service.now f.first.now f.last.now f.interval.now f.options.now f.contacts.now

abbrev pub seen_option : OptionForm → line.Form
seen_option f = line.OptionForm f.name.now f.value.now

abbrev pub seen_settle : SettleForm → line.Form
seen_settle f = line.SettleForm f.seconds.now

abbrev pub seen_delay : DelayForm → line.Form
seen_delay f = line.DelayForm f.host.now f.service.now f.seconds.now

abbrev pub seen_volatile : VolatileForm → line.Form
seen_volatile f = line.VolatileForm f.host.now f.service.now

-- the form that the code's form stands for
abbrev pub seen : Form → line.Form
seen (held.Contact f) = seen_contact f
seen (held.Host f) = seen_host f
seen (held.Service f) = seen_service f
seen (held.Escalation f) = seen_escalation f
seen (held.Option f) = seen_option f
seen (held.Settle f) = seen_settle f
seen (held.Delay f) = seen_delay f
seen (held.Volatile f) = seen_volatile f

-- the form that the code found, or none
abbrev pub seen_or_none : Option Form → line.Form
seen_or_none None = line.NoForm
seen_or_none (Some f) = seen f

-- no cause holds of the form
pub record IsFine (k : Configuration) (f : line.Form) : Type 0 where
  pub formed : line.has_bad_form f ≡ false
  pub numbered : line.has_bad_number f ≡ false
  pub lettered : line.has_bad_option f ≡ false
  pub new : is_duplicate k f ≡ false
  pub host_known : names_unknown_host k f ≡ false
  pub service_known : names_unknown_service k f ≡ false
  pub contacts_known : names_unknown_contact k f ≡ false
  pub few : is_too_many k f ≡ false

-- the object of these names, and its host
abbrev pub object_found : Configuration → (host service : List ℕ) → KnownNames
object_found k host service = record { named = object_of k host service; host = host_of k.objects host }

-- the indices that earlier lines give to the names of the form: that of the contact, host or service itself, or of
-- the object that the line says something of; and that of the host
abbrev pub found_by : Configuration → line.Form → KnownNames
found_by k (line.ContactForm name hosts services) = record { named = contact_of k.contacts name; host = None }
found_by k (line.HostForm name max interval options contacts) = record { named = host_of k.objects name; host = None }
found_by k (line.ServiceForm host name max interval options contacts) = record { named = service_of k.objects host name; host = host_of k.objects host }
found_by k (line.EscalationForm host service first last interval options contacts) = object_found k host service
found_by k (line.DelayForm host service seconds) = object_found k host service
found_by k (line.VolatileForm host service) = object_found k host service
found_by k _ = record { named = None; host = None }

-- ---- letters

-- these letters, with those among the items
abbrev pub named_too : Letters → List (List ℕ) → Letters
named_too l items = record {
  w = l.w || list_any (bytes_eq (codes "w")) items;
  u = l.u || list_any (bytes_eq (codes "u")) items;
  c = l.c || list_any (bytes_eq (codes "c")) items;
  d = l.d || list_any (bytes_eq (codes "d")) items;
  r = l.r || list_any (bytes_eq (codes "r")) items;
  s = l.s || list_any (bytes_eq (codes "s")) items;
}

-- the options of each kind
abbrev pub options_of : OptionsOf → List ℕ
options_of kinds.Host = line.host_options
options_of kinds.Service = line.service_options
options_of kinds.EscalatedHost = line.escalated_host_options
options_of kinds.EscalatedService = line.escalated_service_options
