-- The escalation at an index of the list, where there is one, and which escalations are asked for.
use Rattle.std.specs.Prelude.{ℕ, Bool, true, false, ◌&&◌, if◌then◌else◌, Option, Some, None, slice_index_or}
use Rattle.mon_inventory.specs.declared.records.Escalation.{Escalation}
use Rattle.mon_notify.specs.declared.letter.Letter.{Letter}
use Rattle.mon_notify.specs.declared.escalations.Selection.{Selection}
use Rattle.mon_notify.specs.declared.escalations.Selection.TheVariants as asked
use Rattle.mon_notify.specs.declared.named.Named.{Named}
use Rattle.mon_notify.specs.Escalations.{is_in_force, has_contact}
use Rattle.mon_notify.specs.Interval.{lesser}

-- ---- of private contracts alone

-- something is there, and passes the test
abbrev pub passes : {X : Type 0} → (X → Bool) → Option X → Bool
passes test None = false
passes test (Some x) = test x

-- the escalation is one of those asked for: in force, or any
abbrev pub selects : Selection → Escalation → Bool
selects (asked.InForce number letter) e = is_in_force number letter e
selects asked.Any e = true

-- the escalation is one of those asked for, and has the contact
abbrev pub names : Selection → (contact : ℕ) → Escalation → Bool
names which contact e = selects which e && has_contact contact e.contacts

-- the contact was named
abbrev pub is_named : Named → (contact : ℕ) → Bool
is_named n contact = slice_index_or n.marks.items contact false

-- the lesser of the least interval so far and that of the escalation, if it is in force
abbrev pub lesser_at : ℕ → Letter → Option ℕ → Option Escalation → Option ℕ
lesser_at number letter least None = least
lesser_at number letter least (Some e) = if is_in_force number letter e then lesser least e.interval else least
