-- The contacts that a notice reaches.
use Rattle.std.specs.Prelude.{ℕ, Bool, false, ◌&&◌, nat_lt, if◌then◌else◌, List, length, Option, Some, None, slice_get}
use Rattle.std.specs.List.{filter, range_with_len}
use Rattle.mon_inventory.specs.declared.records.ContactSpec.{ContactSpec}
use Rattle.mon_inventory.specs.Configuration.{Configuration}
use Rattle.mon_notify.specs.declared.letter.Letter.{Letter}
use Rattle.mon_notify.specs.declared.contacts.ContactSwitch.{ContactSwitch}
use Rattle.mon_notify.specs.Letters.{has_letter}
use Rattle.mon_notify.specs.Objects.{is_service, own_contacts}
use Rattle.mon_notify.specs.Escalations.{matching, contacts_of, has_contact}

-- `escalate` is on, and an escalation of the object matches
abbrev pub escalates : Configuration → ℕ → ℕ → Letter → Bool → Bool
escalates k object number letter escalate = escalate && nat_lt 0 (length (matching k object number letter))

-- the contacts of all escalations that match, where the notice is escalated, or else the object's own
abbrev pub candidates_by : Configuration → ℕ → ℕ → Letter → (escalated : Bool) → List ℕ
candidates_by k object number letter escalated = if escalated then contacts_of (matching k object number letter) else own_contacts (slice_get k.objects object)

-- the contact's switch for this kind of object is on
abbrev pub is_on : (service : Bool) → ContactSwitch → Bool
is_on service switch = if service then switch.service else switch.host

-- the contact's switch for this kind of object is on, and its options for that kind have the letter
abbrev pub takes : Bool → Letter → ContactSpec → ContactSwitch → Bool
takes service letter contact switch = is_on service switch && has_letter (if service then contact.service_letters else contact.host_letters) letter

-- the contact at an index is there, and takes the notice
abbrev pub takes_at : Bool → Letter → Option ContactSpec → Option ContactSwitch → Bool
takes_at service letter None switch = false
takes_at service letter (Some contact) None = false
takes_at service letter (Some contact) (Some switch) = takes service letter contact switch

-- the contact is a candidate and takes the notice
abbrev pub is_told_by : Configuration → List ContactSwitch → ℕ → ℕ → Letter → (escalated : Bool) → ℕ → Bool
is_told_by k switches object number letter escalated c =
    takes_at (is_service (slice_get k.objects object)) letter (slice_get k.contacts c) (slice_get switches c)
    && has_contact c (candidates_by k object number letter escalated)

-- the notice reaches the contact
abbrev pub is_told : Configuration → List ContactSwitch → ℕ → ℕ → Letter → Bool → ℕ → Bool
is_told k switches object number letter escalate c = is_told_by k switches object number letter (escalates k object number letter escalate) c

-- the contacts that a notice reaches, in order of the inventory and each once
unfoldable pub recipients : Configuration → List ContactSwitch → ℕ → ℕ → Letter → Bool → List ℕ
recipients k switches object number letter escalate = filter (is_told k switches object number letter escalate) (range_with_len 0 (length k.contacts))
