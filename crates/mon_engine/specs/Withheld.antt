-- What holds the PROBLEM notice of an object back: the first test of the notice that fails.
use Rattle.std.specs.Prelude.{ℕ, ◌+◌, ◌==◌, ◌&&◌, not, nat_lt, Bool, true, if◌then◌else◌, List, [], ◌∷◌, ◌++◌, length, Option, Some, None, slice_get}
use Rattle.mon_inventory.specs.declared.records.ObjectSpec.{ObjectSpec}
use Rattle.mon_inventory.specs.Configuration.{Configuration}
use Rattle.mon_notify.specs.declared.facts.Facts.{Facts}
use Rattle.mon_notify.specs.Letters.{letter_of}
use Rattle.mon_notify.specs.Recipients.{recipients}
use Rattle.mon_notify.specs.Viable.{is_delayed, is_due, is_old, is_settled}
use Rattle.mon_engine.specs.declared.notices.Occasion.{Occasion}
use Rattle.mon_engine.specs.declared.notice.Notice.{Notice}
use Rattle.mon_engine.specs.declared.notice.Word.TheVariants.{Problem}
use Rattle.mon_engine.specs.declared.object.Object.{Object}
use Rattle.mon_engine.specs.Objects.{is_service}
use Rattle.mon_engine.specs.Notices.{of_object, problem_facts, subject_of}
use Rattle.mon_engine.specs.World.{World}
use Rattle.mon_engine.specs.declared.withheld.Withheld.{Withheld}
use Rattle.mon_engine.specs.declared.withheld.Withheld.TheVariants.{Program, Switch, Downtime, Host, Letter, Acknowledged, Soft, NotBefore, Interval, Delay, Settle, Nobody}

-- of these tests, each with what it holds back for where it fails, the first that fails
abbrev pub first_failing : List (Bool × Withheld) → Option Withheld
first_failing [] = None
first_failing (test ∷ tests) = if test.0 then first_failing tests else Some test.1

-- the tests of a PROBLEM in their order, but for that of its contacts
abbrev pub tests : Facts → List (Bool × Withheld)
tests f =
    (f.program_on, Program)
    ∷ (f.object_on, Switch)
    ∷ ((f.depth == 0) && (f.host_depth == 0), Downtime)
    ∷ (f.host_up, Host)
    ∷ (f.letter_on, Letter)
    ∷ (not f.acknowledged, Acknowledged)
    ∷ (f.hard, Soft)
    ∷ (not (is_delayed f.not_before f.clock), NotBefore)
    ∷ (is_due f, Interval)
    ∷ (is_old f, Delay)
    ∷ (is_settled f, Settle)
    ∷ []

-- the first test that fails; `someone` says whether the notice reaches a contact
abbrev pub withheld_by : Facts → (someone : Bool) → Option Withheld
withheld_by f someone = first_failing (tests f ++ (someone, Nobody) ∷ [])

-- the next PROBLEM notice of the object, to those whom its number and the letter of the state reach
abbrev pub next_problem : Configuration → World → (object : ℕ) → ObjectSpec → Object → Notice
next_problem inv w object spec o = record {
  subject = subject_of w.clock Problem object o (o.number + 1);
  contacts = recipients inv w.contacts object (o.number + 1) (letter_of (is_service spec) o.status.code) true;
}

-- what holds the next PROBLEM of the object back, by its line of the inventory and its state
abbrev pub withheld_of : Configuration → World → Occasion → (object : ℕ) → ObjectSpec → Object → Option Withheld
withheld_of inv w occasion object spec o = withheld_by (problem_facts inv w occasion object spec o) (nat_lt 0 (length (next_problem inv w object spec o).contacts))

-- what holds the PROBLEM of the object back on this occasion, where its code is not 0; none where nothing does
unfoldable pub withheld : Configuration → World → Occasion → (object : ℕ) → Option Withheld
withheld inv w occasion object = of_object None (withheld_of inv w occasion object) (slice_get inv.objects object) (slice_get w.objects object)
