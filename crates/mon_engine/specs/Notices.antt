-- Notices: which go out, which contacts they reach, and the state of their object afterwards.
use Rattle.std.specs.Prelude.{ℕ, ◌+◌, ◌==◌, ◌&&◌, not, nat_lt, Bool, true, false, if◌then◌else◌, List, ◌++◌, length, Option, Some, None, slice_get, option_to_list}
use Rattle.mon_checks.specs.declared.transition.Change.{Change}
use Rattle.mon_downtime.specs.Records.{depth_of}
use Rattle.mon_inventory.specs.declared.records.ObjectSpec.{ObjectSpec}
use Rattle.mon_inventory.specs.Configuration.{Configuration, directives_at, recovers_the_told}
use Rattle.mon_notify.specs.declared.contacts.ContactSwitch.{ContactSwitch}
use Rattle.mon_notify.specs.declared.facts.Facts.{Facts}
use Rattle.mon_notify.specs.declared.letter.Letter.{Letter}
use Rattle.mon_notify.specs.declared.letter.Letter.TheVariants as letter
use Rattle.mon_notify.specs.Letters.{letter_of, has_letter}
use Rattle.mon_notify.specs.Interval.{interval_in_force}
use Rattle.mon_notify.specs.Recipients.{recipients}
use Rattle.mon_notify.specs.Viable.{problem_viable, recovery_viable}
use Rattle.mon_notify.specs.Custom.{custom_viable, custom_recipients}
use Rattle.mon_engine.specs.declared.object.Object.{Object}
use Rattle.mon_engine.specs.declared.objects.Setting.TheVariants as settings
use Rattle.mon_engine.specs.declared.notices.Occasion.{Occasion}
use Rattle.mon_engine.specs.declared.notices.Occasion.TheVariants as occasions
use Rattle.mon_engine.specs.declared.notice.Notice.{Notice}
use Rattle.mon_engine.specs.declared.notice.Subject.{Subject}
use Rattle.mon_engine.specs.declared.notice.Word.{Word}
use Rattle.mon_engine.specs.declared.notice.Word.TheVariants as words
use Rattle.mon_engine.specs.Places.{changed_at}
use Rattle.mon_engine.specs.Objects.{is_service, is_acknowledged, host_is_up, back_since, after_told, custom_number, with_setting, reset}
use Rattle.mon_engine.specs.World.{World}

-- the word is PROBLEM
abbrev pub is_problem_word : Word → Bool
is_problem_word words.Problem = true
is_problem_word word = false

-- ---- one notice

-- what a notice of the object says, with the object's present code
abbrev pub subject_of : (moment : ℕ) → Word → (object : ℕ) → Object → (number : ℕ) → Subject
subject_of moment word object o number = record { moment = moment; word = word; object = object; code = o.status.code; number = number }

-- the notice to these contacts, where there are any
abbrev pub to_someone : Subject → (contacts : List ℕ) → Option Notice
to_someone s contacts = if nat_lt 0 (length contacts) then Some (record { subject = s; contacts = contacts }) else None

-- the notice to the contacts that it reaches by its object, number and letter; none where it reaches nobody
unfoldable pub addressed : Configuration → List ContactSwitch → Subject → Letter → (escalate : Bool) → Option Notice
addressed inv switches s l escalate = to_someone s (recipients inv switches s.object s.number l escalate)

-- the notice goes out, if there is one
abbrev pub told : World → Option Notice → World
told w n = record w { notices = w.notices ++ option_to_list n }

-- the program's and the object's switch are on
abbrev pub both_on : World → Object → Bool
both_on w o = w.program.notifications && o.notify

-- The answer for an object that is there, by its line of the inventory and its state. A world has each object of
-- its inventory (`AreObjectStates`), and the object of a command, a downtime or a comment is one of them, so that
-- `otherwise` is never the answer.
abbrev pub of_object : {A : Type 0} → A → (ObjectSpec → Object → A) → Option ObjectSpec → Option Object → A
of_object otherwise f None o = otherwise
of_object otherwise f (Some spec) None = otherwise
of_object otherwise f (Some spec) (Some o) = f spec o

-- ---- downtimes and acknowledgements

-- whatever the depth: both switches and the letter s are asked, and someone whom it reaches, without escalation
abbrev pub downtime_notice_of : Configuration → World → Word → (moment object : ℕ) → ObjectSpec → Object → Option Notice
downtime_notice_of inv w word moment object spec o =
    if both_on w o && spec.letters.s then addressed inv w.contacts (subject_of moment word object o o.number) letter.S false else None

-- the notice of a downtime's start, end or cancellation, where it may go out
unfoldable pub downtime_notice : Configuration → World → Word → (moment object : ℕ) → Option Notice
downtime_notice inv w word moment object = of_object None (downtime_notice_of inv w word moment object) (slice_get inv.objects object) (slice_get w.objects object)

-- both switches are asked, and someone whom it reaches
abbrev pub acknowledgement_notice_of : Configuration → World → (object : ℕ) → ObjectSpec → Object → Option Notice
acknowledgement_notice_of inv w object spec o =
    if both_on w o then addressed inv w.contacts (subject_of w.clock words.Acknowledgement object o o.number) (letter_of (is_service spec) o.status.code) true else None

-- the notice of the object's acknowledgement, where it may go out
unfoldable pub acknowledgement_notice : Configuration → World → (object : ℕ) → Option Notice
acknowledgement_notice inv w object = of_object None (acknowledgement_notice_of inv w object) (slice_get inv.objects object) (slice_get w.objects object)

-- ---- problems and recoveries

-- all that decides on a notice, for the letter asked of the object's options; a host has no host above it
abbrev pub facts : Configuration → World → (object : ℕ) → ObjectSpec → Object → Letter → Facts
facts inv w object spec o l = record {
  program_on = w.program.notifications;
  object_on = o.notify;
  depth = depth_of w.downtimes object;
  host_depth = if is_service spec then depth_of w.downtimes spec.host_object else 0;
  host_up = if is_service spec then host_is_up w.objects spec else true;
  letter_on = has_letter spec.letters l;
  acknowledged = is_acknowledged o.acknowledgement;
  hard = o.status.hard;
  clock = w.clock;
  not_before = o.not_before;
  number = o.number;
  code = o.status.code;
  notified = o.notified;
  last = o.last;
  interval = interval_in_force inv object o.number o.status.code;
  volatile = false;
  since = o.moments.since;
  delay = (directives_at inv (Some object)).first_notification_delay;
  above_back = if is_service spec then back_since (slice_get w.objects spec.host_object) else None;
  settle = inv.settle;
}

-- each bad result of a volatile service is due; by the clock it is as any object
abbrev pub is_volatile_on : Occasion → Configuration → (object : ℕ) → Bool
is_volatile_on occasions.Check inv object = (directives_at inv (Some object)).is_volatile
is_volatile_on occasions.Clock inv object = false

-- all that decides on the notice of the object's problem, for the letter of its state
abbrev pub problem_facts : Configuration → World → Occasion → (object : ℕ) → ObjectSpec → Object → Facts
problem_facts inv w occasion object spec o = record (facts inv w object spec o (letter_of (is_service spec) o.status.code)) { volatile = is_volatile_on occasion inv object }

-- the notice of a problem, where the tests allow it
abbrev pub problem_notice_by : Configuration → World → (object : ℕ) → Object → Letter → (may : Bool) → Option Notice
problem_notice_by inv w object o l may = if may then addressed inv w.contacts (subject_of w.clock words.Problem object o (o.number + 1)) l true else None

-- the notice of the object's problem, where it may go out; its contacts go by the next number and the state's
-- letter
unfoldable pub problem_notice : Configuration → World → Occasion → (object : ℕ) → ObjectSpec → Object → Option Notice
problem_notice inv w occasion object spec o =
    problem_notice_by inv w object o (letter_of (is_service spec) o.status.code) (problem_viable (problem_facts inv w occasion object spec o))

-- where the notice of a problem goes out, the object counts it; else nothing changes
abbrev pub with_problem : World → (object : ℕ) → Option Notice → World
with_problem w object None = w
with_problem w object (Some n) = record (told w (Some n)) { objects = changed_at w.objects object (after_told w.clock) }

-- the notice of a recovery, where the tests allow it
abbrev pub recovery_notice_by : Configuration → World → (object : ℕ) → Object → (may : Bool) → Option Notice
recovery_notice_by inv w object o may = if may then addressed inv w.contacts (subject_of w.clock words.Recovery object o o.number) letter.R true else None

-- the notice of the object's recovery, where it may go out; its contacts go by the number itself and the letter r. With
-- the option `recover_the_told` a result tells of no recovery
unfoldable pub recovery_notice : Configuration → World → (object : ℕ) → (hard_recovery : Bool) → ObjectSpec → Object → Option Notice
recovery_notice inv w object hard_recovery spec o =
    recovery_notice_by inv w object o (hard_recovery && not (recovers_the_told inv) && recovery_viable (facts inv w object spec o letter.R))

-- after a recovery, notified or not, the count begins anew
abbrev pub with_recovery : World → (object : ℕ) → Option Notice → World
with_recovery w object n = record (told w n) { objects = changed_at w.objects object reset }

-- the problem of an object is told where its code is not 0 and the notice may go out
abbrev pub told_problem_of : Configuration → World → Occasion → (object : ℕ) → ObjectSpec → Object → World
told_problem_of inv w occasion object spec o = if o.status.code == 0 then w else with_problem w object (problem_notice inv w occasion object spec o)

-- the problem of the object of this index is told, where it may be
unfoldable pub told_problem : Configuration → Occasion → World → (object : ℕ) → World
told_problem inv occasion w object = of_object w (told_problem_of inv w occasion object) (slice_get inv.objects object) (slice_get w.objects object)

-- the notices of a result that was taken and made this change
abbrev pub noticed_by : Configuration → World → (object : ℕ) → Change → ObjectSpec → Object → World
noticed_by inv w object change spec o =
    if change.recovered then with_recovery w object (recovery_notice inv w object change.hard_recovery spec o) else told_problem_of inv w occasions.Check object spec o

-- the notices of a result, and what they leave of the object
unfoldable pub noticed : Configuration → World → (object : ℕ) → Change → World
noticed inv w object change = of_object w (noticed_by inv w object change) (slice_get inv.objects object) (slice_get w.objects object)

-- ---- custom notices

-- the custom notice, where the tests allow it
abbrev pub custom_notice_by : Configuration → World → (object number options : ℕ) → Object → (may : Bool) → Option Notice
custom_notice_by inv w object number options o may =
    if may then to_someone (subject_of w.clock words.Custom object o number) (custom_recipients inv w.contacts object number o.status.code options) else None

-- the custom notice, where it may go out, whatever the state and the letters: no test reads the letter among the
-- facts
unfoldable pub custom_notice : Configuration → World → (object number options : ℕ) → ObjectSpec → Object → Option Notice
custom_notice inv w object number options spec o =
    custom_notice_by inv w object number options o (custom_viable (facts inv w object spec o (letter_of (is_service spec) o.status.code)) options)

-- where it goes out, the object's number is that of the notice; else nothing changes
abbrev pub with_custom : World → (object number : ℕ) → Option Notice → World
with_custom w object number None = w
with_custom w object number (Some n) = record (told w (Some n)) { objects = changed_at w.objects object (with_setting (settings.Number number)) }

-- the world after a custom notice of an object that is there
abbrev pub after_custom_of : Configuration → World → (object options : ℕ) → ObjectSpec → Object → World
after_custom_of inv w object options spec o = with_custom w object (custom_number options o) (custom_notice inv w object (custom_number options o) options spec o)

-- the world after a custom notice that a command asked for
unfoldable pub after_custom : Configuration → World → (object options : ℕ) → World
after_custom inv w object options = of_object w (after_custom_of inv w object options) (slice_get inv.objects object) (slice_get w.objects object)
