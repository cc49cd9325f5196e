-- Which escalations match an object, a notification number and a letter, and whom they name.
use Rattle.std.specs.Prelude.{ℕ, Bool, ◌==◌, ◌&&◌, ◌||◌, nat_le, List, flat_map}
use Rattle.std.specs.List.{list_any, filter}
use Rattle.mon_inventory.specs.declared.records.Escalation.{Escalation}
use Rattle.mon_inventory.specs.Configuration.{Configuration}
use Rattle.mon_notify.specs.declared.letter.Letter.{Letter}
use Rattle.mon_notify.specs.Letters.{has_letter}

-- the number is from the escalation's first to its last, where 0 is no last, and the escalation has the letter
abbrev pub is_in_force : ℕ → Letter → Escalation → Bool
is_in_force number letter e = nat_le e.first number && ((e.last == 0) || nat_le number e.last) && has_letter e.letters letter

-- the escalations of the object that are in force
unfoldable pub matching : Configuration → ℕ → ℕ → Letter → List Escalation
matching k object number letter = filter (λ e. (e.object == object) && is_in_force number letter e) k.escalations

-- the contacts of all these escalations
abbrev pub contacts_of : List Escalation → List ℕ
contacts_of es = flat_map (λ e. e.contacts) es

-- the contact is one of these
abbrev pub has_contact : ℕ → List ℕ → Bool
has_contact contact contacts = list_any (λ c. c == contact) contacts
