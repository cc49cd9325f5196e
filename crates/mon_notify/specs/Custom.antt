-- Custom notices, which a command asks for: the bits of their options, when they may go out, and which contacts they
-- reach.
use Rattle.std.specs.Prelude.{ℕ, Bool, false, ◌==◌, ◌&&◌, ◌||◌, not, if◌then◌else◌, List, length, ◌++◌, Option, Some, None, slice_get}
use Rattle.std.specs.List.{filter, range_with_len}
use Rattle.std.specs.Int.Bits.{bit_and}
use Rattle.mon_inventory.specs.declared.records.Escalation.{Escalation}
use Rattle.mon_inventory.specs.Configuration.{Configuration}
use Rattle.mon_inventory.specs.Lookups.{is_escalation_of}
use Rattle.mon_notify.specs.declared.contacts.ContactSwitch.{ContactSwitch}
use Rattle.mon_notify.specs.declared.facts.Facts.{Facts}
use Rattle.mon_notify.specs.Letters.{letter_of}
use Rattle.mon_notify.specs.Objects.{is_service, own_contacts}
use Rattle.mon_notify.specs.Escalations.{contacts_of, has_contact}
use Rattle.mon_notify.specs.Recipients.{escalates, candidates_by, is_on}
use Rattle.mon_notify.specs.Viable.{is_open}

-- ---- options: three bits of a number, whose other bits say nothing

-- the number has this bit
abbrev pub has_bit : (bit : ℕ) → (options : ℕ) → Bool
has_bit bit options = not (bit_and options bit == 0)

-- the notice goes to the contacts of the object and of all its escalations
abbrev pub is_broadcast : ℕ → Bool
is_broadcast options = has_bit 1 options

-- the notice goes out even where notifications are off or a downtime is active
abbrev pub is_forced : ℕ → Bool
is_forced options = has_bit 2 options

-- the notice goes out under the next notification number
abbrev pub increments : ℕ → Bool
increments options = has_bit 4 options

-- ---- when

-- all tests of a custom notice but its recipients: forced, or both switches are on and no downtime is active
abbrev pub custom_viable : Facts → (options : ℕ) → Bool
custom_viable f options = is_forced options || is_open f

-- ---- whom

-- the escalations of the object, whatever their numbers and letters
abbrev pub all_escalations : Configuration → (object : ℕ) → List Escalation
all_escalations k object = filter (is_escalation_of object) k.escalations

-- a notice that is no broadcast goes to escalations, where one of the object matches
abbrev pub custom_escalates : Configuration → (object number code options : ℕ) → Bool
custom_escalates k object number code options = escalates k object number (letter_of (is_service (slice_get k.objects object)) code) (not (is_broadcast options))

-- the contacts of the object and of all its escalations
abbrev pub all_contacts : Configuration → (object : ℕ) → List ℕ
all_contacts k object = own_contacts (slice_get k.objects object) ++ contacts_of (all_escalations k object)

-- all these contacts, or those of a notice that escalates or does not
abbrev pub custom_candidates_by : Configuration → (object number code options : ℕ) → (escalated : Bool) → List ℕ
custom_candidates_by k object number code options escalated =
    if is_broadcast options then all_contacts k object
    else candidates_by k object number (letter_of (is_service (slice_get k.objects object)) code) escalated

-- the switch of a contact for this kind of object is on
abbrev pub is_on_at : (service : Bool) → Option ContactSwitch → Bool
is_on_at service None = false
is_on_at service (Some switch) = is_on service switch

-- the contact is a candidate, and its switch is on or the notice is forced
abbrev pub is_custom_told_by : Configuration → List ContactSwitch → (object number code options : ℕ) → (escalated : Bool) → (contact : ℕ) → Bool
is_custom_told_by k switches object number code options escalated c =
    (is_forced options || is_on_at (is_service (slice_get k.objects object)) (slice_get switches c))
    && has_contact c (custom_candidates_by k object number code options escalated)

-- the notice reaches the contact: no letter is asked of it, and its switch only where the notice is not forced
abbrev pub is_custom_told : Configuration → List ContactSwitch → (object number code options : ℕ) → (contact : ℕ) → Bool
is_custom_told k switches object number code options c =
    is_custom_told_by k switches object number code options (custom_escalates k object number code options) c

-- the contacts that a custom notice reaches: in order of the inventory and each once, the candidates whose switch
-- is on, or all if it is forced
unfoldable pub custom_recipients : Configuration → List ContactSwitch → (object number code options : ℕ) → List ℕ
custom_recipients k switches object number code options = filter (is_custom_told k switches object number code options) (range_with_len 0 (length k.contacts))
