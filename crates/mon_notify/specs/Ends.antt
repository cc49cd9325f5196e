-- Who is notified of the end of a problem, where the end goes to those who were notified of the problem.
use Rattle.std.specs.Prelude.{ℕ, Bool, false, ◌&&◌, ◌||◌, not, if◌then◌else◌, List, length, Option, Some, None, slice_get}
use Rattle.std.specs.List.{filter, list_any, range_with_len}
use Rattle.mon_inventory.specs.declared.records.ContactSpec.{ContactSpec}
use Rattle.mon_inventory.specs.declared.records.ObjectSpec.{ObjectSpec}
use Rattle.mon_inventory.specs.Configuration.{Configuration}
use Rattle.mon_notify.specs.declared.contacts.ContactSwitch.{ContactSwitch}
use Rattle.mon_notify.specs.declared.letter.Letter.TheVariants.{R}
use Rattle.mon_notify.specs.Custom.{all_contacts, is_on_at}
use Rattle.mon_notify.specs.Escalations.{has_contact}
use Rattle.mon_notify.specs.Letters.{has_letter}
use Rattle.mon_notify.specs.Objects.{is_service}

-- the options of the object and those of the contact for its kind have the letter r
abbrev pub hears_of : Option ObjectSpec → Option ContactSpec → Bool
hears_of None contact = false
hears_of (Some spec) None = false
hears_of (Some spec) (Some contact) = has_letter spec.letters R && has_letter (if is_service (Some spec) then contact.service_letters else contact.host_letters) R

-- the contact is to hear of the end of a problem of the object
abbrev pub hears : Configuration → (object contact : ℕ) → Bool
hears k object contact = hears_of (slice_get k.objects object) (slice_get k.contacts contact)

-- one of these contacts is
abbrev pub one_hears : Configuration → (object : ℕ) → (contacts : List ℕ) → Bool
one_hears k object contacts = list_any (hears k object) contacts

-- the contact is owed the end, or becomes so since it is among those who were notified
abbrev pub is_owed_with : Configuration → (object : ℕ) → (owed notified : List ℕ) → (contact : ℕ) → Bool
is_owed_with k object owed notified contact = has_contact contact owed || (has_contact contact notified && hears k object contact)

-- who is owed the end once these contacts were notified of the problem, in order of the inventory
unfoldable pub owed_with : Configuration → (object : ℕ) → (owed notified : List ℕ) → List ℕ
owed_with k object owed notified = filter (is_owed_with k object owed notified) (range_with_len 0 (length k.contacts))

-- the contact's switch for the kind of the object is on
abbrev pub is_within_reach : Configuration → List ContactSwitch → (object contact : ℕ) → Bool
is_within_reach k switches object contact = is_on_at (is_service (slice_get k.objects object)) (slice_get switches contact)

-- the switch of one of these contacts is
abbrev pub reaches_one : Configuration → List ContactSwitch → (object : ℕ) → (owed : List ℕ) → Bool
reaches_one k switches object owed = list_any (is_within_reach k switches object) owed

-- those whose switch is on, and those whose switch is off
abbrev pub reached : Configuration → List ContactSwitch → (object : ℕ) → (owed : List ℕ) → List ℕ
reached k switches object owed = filter (is_within_reach k switches object) owed

abbrev pub missed : Configuration → List ContactSwitch → (object : ℕ) → (owed : List ℕ) → List ℕ
missed k switches object owed = filter (λ c. not (is_within_reach k switches object c)) owed

-- the contact was owed the end, is to hear of it, and is a contact of the object or of one of its escalations
abbrev pub is_still_owed : Configuration → (object : ℕ) → (owed : List ℕ) → (contact : ℕ) → Bool
is_still_owed k object owed contact = has_contact contact owed && (hears k object contact && has_contact contact (all_contacts k object))

-- who of these contacts is owed the end under this inventory, in its order
unfoldable pub still_owed : Configuration → (object : ℕ) → (owed : List ℕ) → List ℕ
still_owed k object owed = filter (is_still_owed k object owed) (range_with_len 0 (length k.contacts))
