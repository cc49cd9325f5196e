-- A line by the positions of its fields, what its fields say, and the faults that it has by itself.
use Rattle.std.specs.Prelude.{ℕ, Bool, true, false, List, [], ◌∷◌, length, codes, not, nat_le, ◌==◌, ◌&&◌, ◌||◌, if◌then◌else◌}
use Rattle.std.specs.List.{list_any, slice_split}
use Rattle.std.specs.Str.{bytes_eq}
use Rattle.std.specs.Str.Parse.{digits_value}
use Rattle.cmd_types.specs.Bytes.{without_returns}
use Rattle.cmd_types.specs.Digits.{is_number}
use Rattle.mon_inventory.specs.declared.letters.Letters.{Letters}
use Rattle.mon_inventory.specs.Texts.{items, has_empty_item}

-- ---- fields

-- the parts of a line between its semicolons, at least one; carriage returns at its end do not count
abbrev pub fields : List ℕ → List (List ℕ)
fields line = slice_split (λ b. b == 59) (without_returns line)

-- the kinds of lines, each field under its name and as the line has it
pub data Form : Type 0 where
  ContactForm : (name host_options service_options : List ℕ) → Form
  HostForm : (name max interval options contacts : List ℕ) → Form
  ServiceForm : (host name max interval options contacts : List ℕ) → Form
  EscalationForm : (host service first last interval options contacts : List ℕ) → Form
  OptionForm : (name value : List ℕ) → Form
  SettleForm : (seconds : List ℕ) → Form
  DelayForm : (host service seconds : List ℕ) → Form
  VolatileForm : (host service : List ℕ) → Form
  NoForm : Form

-- the kinds that have as many fields as another kind
abbrev pub delay_form : (word host service seconds : List ℕ) → Form
delay_form word host service seconds = if bytes_eq word (codes "delay") then DelayForm host service seconds else NoForm

abbrev pub volatile_form : (word host service : List ℕ) → Form
volatile_form word host service = if bytes_eq word (codes "volatile") then VolatileForm host service else NoForm

-- the kind by the first field and how many fields there are
abbrev pub form_of : List (List ℕ) → Form
form_of (word ∷ (seconds ∷ [])) =
    if bytes_eq word (codes "settle") then SettleForm seconds else NoForm
form_of (word ∷ (name ∷ (value ∷ []))) =
    if bytes_eq word (codes "option") then OptionForm name value else volatile_form word name value
form_of (word ∷ (name ∷ (hosts ∷ (services ∷ [])))) =
    if bytes_eq word (codes "contact") then ContactForm name hosts services else delay_form word name hosts services
form_of (word ∷ (name ∷ (max ∷ (interval ∷ (options ∷ (contacts ∷ [])))))) =
    if bytes_eq word (codes "host") then HostForm name max interval options contacts else NoForm
form_of (word ∷ (host ∷ (name ∷ (max ∷ (interval ∷ (options ∷ (contacts ∷ []))))))) =
    if bytes_eq word (codes "service") then ServiceForm host name max interval options contacts else NoForm
form_of (word ∷ (host ∷ (service ∷ (first ∷ (last ∷ (interval ∷ (options ∷ (contacts ∷ [])))))))) =
    if bytes_eq word (codes "escalation") then EscalationForm host service first last interval options contacts else NoForm
form_of _ = NoForm

-- the form of a line
abbrev pub form : List ℕ → Form
form line = form_of (fields line)

-- ---- what a field says

-- the field has no byte
abbrev pub is_empty : List ℕ → Bool
is_empty text = length text == 0

-- the field has a comma
abbrev pub has_comma : List ℕ → Bool
has_comma text = list_any (λ b. b == 44) text

-- the value of a number
abbrev pub value_of : List ℕ → ℕ
value_of text = digits_value 10 text

-- a number of at least 1
abbrev pub is_positive : List ℕ → Bool
is_positive text = is_number text && nat_le 1 (value_of text)

-- the field is 1, which is on
abbrev pub is_on : List ℕ → Bool
is_on text = bytes_eq text (codes "1")

-- the field is 0 or 1
abbrev pub is_switch : List ℕ → Bool
is_switch text = bytes_eq text (codes "0") || is_on text

-- an item of a comma list is this one
abbrev pub has_item : List ℕ → List ℕ → Bool
has_item item text = list_any (bytes_eq item) (items text)

-- an item of a comma list is none of those that are allowed, themselves a comma list
abbrev pub has_other_item : List ℕ → List ℕ → Bool
has_other_item allowed text = list_any (λ item. not (has_item item allowed)) (items text)

-- the letters that are items of a comma list
abbrev pub letters : List ℕ → Letters
letters text = record {
  w = has_item (codes "w") text;
  u = has_item (codes "u") text;
  c = has_item (codes "c") text;
  d = has_item (codes "d") text;
  r = has_item (codes "r") text;
  s = has_item (codes "s") text;
}

-- the option letters that each kind of line may have, as comma lists
abbrev pub host_options : List ℕ
host_options = codes "d,u,r,s"

abbrev pub service_options : List ℕ
service_options = codes "w,u,c,r,s"

abbrev pub escalated_host_options : List ℕ
escalated_host_options = codes "d,u,r"

abbrev pub escalated_service_options : List ℕ
escalated_service_options = codes "w,u,c,r"

-- an escalation without a service is of a host
abbrev pub escalation_options : List ℕ → List ℕ
escalation_options service = if is_empty service then escalated_host_options else escalated_service_options

-- ---- the faults of a line by itself

-- the name of the option by which passive results leave a host soft below its greatest attempt
abbrev pub passive_host_checks_are_soft : List ℕ
passive_host_checks_are_soft = codes "passive_host_checks_are_soft"

-- the name of the option by which a problem is told with any entry
abbrev pub tell_by_clock : List ℕ
tell_by_clock = codes "tell_by_clock"

-- the name of the option by which the end of a problem goes to those who were notified of the problem
abbrev pub recover_the_told : List ℕ
recover_the_told = codes "recover_the_told"

-- the options that are known
abbrev pub is_option : List ℕ → Bool
is_option name = bytes_eq name passive_host_checks_are_soft || bytes_eq name tell_by_clock || bytes_eq name recover_the_told

-- no known form, an empty name, a comma in a contact's name, an empty item of a comma list, or no known option
abbrev pub has_bad_form : Form → Bool
has_bad_form (ContactForm name hosts services) = is_empty name || has_comma name || has_empty_item hosts || has_empty_item services
has_bad_form (HostForm name max interval options contacts) = is_empty name || has_empty_item options || has_empty_item contacts
has_bad_form (ServiceForm host name max interval options contacts) = is_empty host || is_empty name || has_empty_item options || has_empty_item contacts
has_bad_form (EscalationForm host service first last interval options contacts) = is_empty host || has_empty_item options || has_empty_item contacts
has_bad_form (OptionForm name value) = not (is_option name)
has_bad_form (SettleForm seconds) = false
has_bad_form (DelayForm host service seconds) = is_empty host
has_bad_form (VolatileForm host service) = is_empty host || is_empty service
has_bad_form NoForm = true

-- a field that has to be a number is none, or is out of its range
abbrev pub has_bad_number : Form → Bool
has_bad_number (HostForm name max interval options contacts) = not (is_positive max) || not (is_number interval)
has_bad_number (ServiceForm host name max interval options contacts) = not (is_positive max) || not (is_number interval)
has_bad_number (EscalationForm host service first last interval options contacts) = not (is_number first) || not (is_number last) || not (is_number interval)
has_bad_number (OptionForm name value) = not (is_switch value)
has_bad_number (SettleForm seconds) = not (is_positive seconds)
has_bad_number (DelayForm host service seconds) = not (is_positive seconds)
has_bad_number _ = false

-- an option letter that this kind of line does not have
abbrev pub has_bad_option : Form → Bool
has_bad_option (ContactForm name hosts services) = has_other_item host_options hosts || has_other_item service_options services
has_bad_option (HostForm name max interval options contacts) = has_other_item host_options options
has_bad_option (ServiceForm host name max interval options contacts) = has_other_item service_options options
has_bad_option (EscalationForm host service first last interval options contacts) = has_other_item (escalation_options service) options
has_bad_option _ = false
