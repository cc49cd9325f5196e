-- Ends of problems: with the option `recover_the_told` a RECOVERY goes to those who were notified of the problem, when it may
-- reach them.
use Rattle.std.specs.Prelude.{ℕ, ◌+◌, ◌==◌, ◌&&◌, ◌||◌, not, nat_lt, Bool, false, if◌then◌else◌, List, [], length, drop, Option, Some, None, slice_get}
use Rattle.std.specs.List.{fold, range_with_len}
use Rattle.mon_inventory.specs.declared.records.ObjectSpec.{ObjectSpec}
use Rattle.mon_inventory.specs.Configuration.{Configuration, recovers_the_told}
use Rattle.mon_notify.specs.declared.letter.Letter.TheVariants.{R}
use Rattle.mon_notify.specs.Ends.{missed, one_hears, owed_with, reached, reaches_one}
use Rattle.mon_notify.specs.Viable.{is_open}
use Rattle.mon_engine.specs.declared.ends.Owed.{Owed}
use Rattle.mon_engine.specs.declared.notice.Notice.{Notice}
use Rattle.mon_engine.specs.declared.notice.Word.TheVariants.{Recovery}
use Rattle.mon_engine.specs.declared.object.Object.{Object}
use Rattle.mon_engine.specs.Notices.{facts, is_problem_word, of_object, subject_of, to_someone, told}
use Rattle.mon_engine.specs.Owed.{nobody}
use Rattle.mon_engine.specs.Places.{changed_at}
use Rattle.mon_engine.specs.World.{World}

-- ---- an end is told

-- each object has its own (`IsOwing`), so that it is never none
abbrev pub owed_of : Option Owed → Owed
owed_of None = nobody
owed_of (Some x) = x

-- who is owed the end of the object of this index
abbrev pub owed_at : World → (object : ℕ) → Owed
owed_at w object = owed_of (slice_get w.owed object)

-- a week, in seconds
abbrev pub week : ℕ
week = 604800

-- the end is less than a week old; an older one is no news
abbrev pub is_news : (clock : ℕ) → Object → Bool
is_news clock o = nat_lt clock (o.moments.changed + week)

-- both switches are on, and neither the object nor its host is in a downtime; whether the host is UP is not asked
abbrev pub may_end : Configuration → World → (object : ℕ) → ObjectSpec → Object → Bool
may_end inv w object spec o = is_open (facts inv w object spec o R)

-- the notice of the end, with the number of the end, to those whose switch is on
abbrev pub end_notice : Configuration → World → (object : ℕ) → Object → Owed → Option Notice
end_notice inv w object o owed = to_someone (subject_of w.clock Recovery object o owed.number) (reached inv w.contacts object owed.contacts)

-- these contacts are owed the end of the object from now on
abbrev pub with_owed : World → (object : ℕ) → List ℕ → World
with_owed w object contacts = record w { owed = changed_at w.owed object (λ x. record x { contacts = contacts }) }

-- there is something to do of an end: the problem of the object is over and some are owed its end; and the end is no news,
-- or may be told and reaches one of them
abbrev pub is_end_due_of : Configuration → World → (object : ℕ) → ObjectSpec → Object → Bool
is_end_due_of inv w object spec o =
    (o.status.code == 0)
    && nat_lt 0 (length (owed_at w object).contacts)
    && (not (is_news w.clock o) || (may_end inv w object spec o && reaches_one inv w.contacts object (owed_at w object).contacts))

unfoldable pub is_end_due : Configuration → World → (object : ℕ) → Bool
is_end_due inv w object = of_object false (is_end_due_of inv w object) (slice_get inv.objects object) (slice_get w.objects object)

-- an end that is news is told to those whom it reaches, and the others stay owed it; one that is no news is owed to nobody
abbrev pub told_end_of : Configuration → World → (object : ℕ) → ObjectSpec → Object → World
told_end_of inv w object spec o =
    if is_end_due_of inv w object spec o
    then (if is_news w.clock o then with_owed (told w (end_notice inv w object o (owed_at w object))) object (missed inv w.contacts object (owed_at w object).contacts) else with_owed w object [])
    else w

-- the end of the problem of the object of this index is told, where it may be
unfoldable pub told_end : Configuration → World → (object : ℕ) → World
told_end inv w object = of_object w (told_end_of inv w object) (slice_get inv.objects object) (slice_get w.objects object)

-- the ends of the first so many objects, one after another
abbrev pub told_ends_among : Configuration → World → (count : ℕ) → World
told_ends_among inv w count = fold (told_end inv) w (range_with_len 0 count)

-- with the option `recover_the_told` each end is told that may be, in order of the objects; else none
unfoldable pub told_ends : Configuration → World → World
told_ends inv w = if recovers_the_told inv then told_ends_among inv w (length inv.objects) else w

-- ---- who is owed an end

-- the contacts of a PROBLEM who hear of ends are owed the end too, and the end has the number of the notice
abbrev pub owed_after : Configuration → Notice → Owed → Owed
owed_after inv n x = record x { contacts = owed_with inv n.subject.object x.contacts n.contacts; number = n.subject.number }

abbrev pub owes : Configuration → List Owed → Notice → List Owed
owes inv owed n = if is_problem_word n.subject.word && one_hears inv n.subject.object n.contacts then changed_at owed n.subject.object (owed_after inv n) else owed

-- with the option, those who were notified of a problem by the notices behind so many are owed its end
unfoldable pub owing : Configuration → (before : ℕ) → World → World
owing inv before w = if recovers_the_told inv then record w { owed = fold (owes inv) w.owed (drop before w.notices) } else w
