-- Who is notified with an entry, and when nobody is: laws over the definitions, for any world that an entry finds.
use Rattle.std.specs.Prelude.{◌==◌, ◌&&◌, ◌≡◌, ◌≢◌, ◌⊎◌, ℕ, ◌+◌, ◌<◌, ◌≤◌, Bool, true, false, if◌then◌else◌, List, [], ◌∷◌, ◌++◌, length, drop, Option, Some, None, Ok, slice_get, All, Contains, count_by}
use Rattle.cmd_types.specs.declared.entry.Entry.{Entry}
use Rattle.mon_downtime.specs.Records.{depth_of}
use Rattle.mon_downtime.specs.Problem.{all_waiting}
use Rattle.mon_inventory.specs.declared.records.ContactSpec.{ContactSpec}
use Rattle.mon_inventory.specs.declared.records.ObjectSpec.{ObjectSpec}
use Rattle.mon_inventory.specs.Configuration.{Configuration, directives_at, recovers_the_told}
use Rattle.mon_notify.specs.declared.contacts.ContactSwitch.{ContactSwitch}
use Rattle.mon_notify.specs.declared.letter.Letter.{Letter}
use Rattle.mon_notify.specs.declared.letter.Letter.TheVariants as letter
use Rattle.mon_notify.specs.Custom.{all_escalations, is_forced, is_on_at}
use Rattle.mon_notify.specs.Escalations.{contacts_of, has_contact}
use Rattle.mon_notify.specs.Interval.{interval_in_force}
use Rattle.mon_notify.specs.Letters.{letter_of, has_letter}
use Rattle.mon_notify.specs.Objects.{is_service, own_contacts}
use Rattle.mon_notify.specs.Recipients.{recipients}
use Rattle.mon_notify.specs.Viable.{is_delayed, is_of_code, is_over, have_gone_by}
use Rattle.mon_engine.specs.declared.notices.Occasion.TheVariants.{Check}
use Rattle.mon_engine.specs.declared.notice.Notice.{Notice}
use Rattle.mon_engine.specs.declared.notice.Subject.{Subject}
use Rattle.mon_engine.specs.declared.notice.Word.{Word}
use Rattle.mon_engine.specs.declared.notice.Word.TheVariants as words
use Rattle.mon_engine.specs.declared.object.Object.{Object}
use Rattle.mon_engine.specs.declared.objects.Setting.TheVariants as settings
use Rattle.mon_engine.specs.declared.outcome.Outcome.{Outcome}
use Rattle.mon_engine.specs.declared.outcome.Outcome.TheVariants.{Applied}
use Rattle.mon_engine.specs.Objects.{is_acknowledged, host_is_up, back_since}
use Rattle.mon_engine.specs.Notices.{is_problem_word}
use Rattle.mon_engine.specs.World.{World}
use Rattle.mon_engine.specs.Clock.{advanced}
use Rattle.mon_engine.specs.Effects as acts
use Rattle.mon_engine.specs.Effects.{Act, named}
use Rattle.mon_engine.specs.Laws.{moment_of, AppliesOne}
use Rattle.mon_engine.specs.Results.{with_result, with_started}
use Rattle.mon_engine.specs.ByClock.{told_by_clock}
use Rattle.mon_engine.specs.Step.{acted, step, meaning_from, meaning}
use Rattle.mon_engine.specs.declared.withheld.Withheld.{Withheld}
use Rattle.mon_engine.specs.Withheld.{withheld, next_problem}

-- the notices that went out between two worlds: those after the notices of the first, which remain (`TellsOfProblems`)
abbrev pub went_out : (before after : World) → List Notice
went_out before after = drop (length before.notices) after.notices

-- the object of this index is a service
abbrev pub is_service_at : Configuration → (object : ℕ) → Bool
is_service_at inv object = is_service (slice_get inv.objects object)

-- the act asks for a forced custom notice of this object
abbrev pub ForcesCustom : (object : ℕ) → Act → Type 0
ForcesCustom object (acts.SendCustom x options) = (x ≡ object) × (is_forced options ≡ true)
ForcesCustom object _ = ⊥

-- a custom notice of this object, and the entry was applied and asked for one that is forced
abbrev pub IsForced : Configuration → Entry → Outcome → Subject → Type 0
IsForced inv e outcome s = (s.word ≡ words.Custom) × AppliesOne inv e outcome (ForcesCustom s.object)

-- ---- only who may be notified is notified

-- the contact is one of the object's own, or one of an escalation of the object
abbrev pub IsContactOf : Configuration → (object contact : ℕ) → Type 0
IsContactOf inv object c = (has_contact c (own_contacts (slice_get inv.objects object)) ≡ true) ⊎ (has_contact c (contacts_of (all_escalations inv object)) ≡ true)

-- the letter that a notice asks of a contact: a custom one asks none
abbrev pub letter_asked : (service : Bool) → (code : ℕ) → Word → Option Letter
letter_asked service code words.Problem = Some (letter_of service code)
letter_asked service code words.Acknowledgement = Some (letter_of service code)
letter_asked service code words.Recovery = Some letter.R
letter_asked service code words.DowntimeStart = Some letter.S
letter_asked service code words.DowntimeEnd = Some letter.S
letter_asked service code words.DowntimeCancelled = Some letter.S
letter_asked service code words.Custom = None

-- the contact's options for that kind of object have the letter
abbrev pub has_letter_at : (service : Bool) → Letter → Option ContactSpec → Bool
has_letter_at service l None = false
has_letter_at service l (Some contact) = has_letter (if service then contact.service_letters else contact.host_letters) l

-- the contact is reached by this, with these switches of the contacts
pub record IsReached (inv : Configuration) (switches : List ContactSwitch) (s : Subject) (c : ℕ) : Type 0 where
  pub contact : IsContactOf inv s.object c
  pub switch_on : is_on_at (is_service_at inv s.object) (slice_get switches c) ≡ true
  pub letter_on : (l : Letter) → letter_asked (is_service_at inv s.object) s.code s.word ≡ Some l → has_letter_at (is_service_at inv s.object) l (slice_get inv.contacts c) ≡ true

-- the contact may be notified of this
pub record MayBeTold (inv : Configuration) (w : World) (e : Entry) (outcome : Outcome) (s : Subject) (c : ℕ) : Type 0 where
  pub contact : IsContactOf inv s.object c
  -- its switch for that kind of object, as the entry found it, which no result and no time changes
  pub switch_on : IsForced inv e outcome s ⊎ (is_on_at (is_service_at inv s.object) (slice_get w.contacts c) ≡ true)
  pub letter_on : (l : Letter) → letter_asked (is_service_at inv s.object) s.code s.word ≡ Some l → has_letter_at (is_service_at inv s.object) l (slice_get inv.contacts c) ≡ true

-- each contact of each notice that an entry's own effect sends may be notified
abbrev pub OnlyWhoMayBeToldIsTold : Type 0
OnlyWhoMayBeToldIsTold = (inv : Configuration) (w : World) (e : Entry) →
    All (λ n. All (MayBeTold inv w e (acted inv w e).1 n.subject) n.contacts) (went_out w (acted inv w e).0)

-- so may each whom the clock tells, by the switches as it finds them
abbrev pub TheClockTellsWhoMayBeTold : Type 0
TheClockTellsWhoMayBeTold = (inv : Configuration) (w : World) → All (λ n. All (IsReached inv w.contacts n.subject) n.contacts) (went_out w (told_by_clock inv w))

-- ---- silence is kept

-- the object is there, and its notifications are on
abbrev pub notifies : Option Object → Bool
notifies None = false
notifies (Some o) = o.notify

-- neither the object nor the host of a service is in a downtime
pub record IsInNoDowntime (inv : Configuration) (w : World) (object : ℕ) : Type 0 where
  pub depth : depth_of w.downtimes object ≡ 0
  pub host_depth : (spec : ObjectSpec) → slice_get inv.objects object ≡ Some spec → is_service (Some spec) ≡ true → depth_of w.downtimes spec.host_object ≡ 0

-- nothing keeps this notice back: w is the world that the entry found, w' the one that it left
pub record IsLetOut (inv : Configuration) (w w' : World) (e : Entry) (outcome : Outcome) (s : Subject) : Type 0 where
  -- the switches of the program and of the object, as the entry found them
  pub switches_on : IsForced inv e outcome s ⊎ ((w.program.notifications ≡ true) × (notifies (slice_get w.objects s.object) ≡ true))
  -- of a PROBLEM or a RECOVERY: neither when the entry has its effect nor afterwards
  pub no_downtime : (s.word ≡ words.Problem) ⊎ (s.word ≡ words.Recovery) → IsInNoDowntime inv (advanced inv w (moment_of w e)) s.object × IsInNoDowntime inv w' s.object

-- nothing keeps back any notice that goes out with an entry
abbrev pub SilenceIsKept : Type 0
SilenceIsKept = (inv : Configuration) (w : World) (e : Entry) →
    All (λ n. IsLetOut inv w (acted inv w e).0 e (acted inv w e).1 n.subject) (went_out w (acted inv w e).0)

-- ---- a problem is notified

-- the notice of a problem of this code with this number, to those whom the number and the letter of the state reach
abbrev pub nth_problem : Configuration → World → (moment object code number : ℕ) → Notice
nth_problem inv w moment object code number = record {
  subject = record { moment = moment; word = words.Problem; object = object; code = code; number = number };
  contacts = recipients inv w.contacts object number (letter_of (is_service_at inv object) code) true;
}

-- the object of this index is a volatile service
abbrev pub is_volatile : Configuration → (object : ℕ) → Bool
is_volatile inv object = (directives_at inv (Some object)).is_volatile

-- a notice of this code is due at a result at the moment t: the object is a volatile service, none went out of the problem
-- yet, or the last one was of another code, or the interval in force, which is not 0, is over
abbrev pub IsNoticeDue : Configuration → (t object : ℕ) → Object → (code : ℕ) → Type 0
IsNoticeDue inv t object o code =
    (is_volatile inv object ≡ true)
    ⊎ ((o.number ≡ 0)
    ⊎ ((is_of_code o.notified code ≡ false)
    ⊎ ((0 < interval_in_force inv object o.number code) × (is_over o.last (interval_in_force inv object o.number code) t ≡ true))))

-- a result leaves a hard problem of which a notice is due, and, downtimes aside, nothing holds that notice back at the
-- moment t: w is the world before, w' the world afterwards
pub record IsProblemToTell (inv : Configuration) (w w' : World) (t object : ℕ) (spec : ObjectSpec) (before after : Object) : Type 0 where
  pub known : slice_get inv.objects object ≡ Some spec
  pub found : slice_get w.objects object ≡ Some before
  pub left : slice_get w'.objects object ≡ Some after
  pub problem : after.status.code ≢ 0
  pub hard : after.status.hard ≡ true
  pub due : IsNoticeDue inv t object before after.status.code
  pub program_on : w.program.notifications ≡ true
  pub object_on : before.notify ≡ true
  pub unacknowledged : is_acknowledged after.acknowledgement ≡ false
  pub no_delay : is_delayed after.not_before t ≡ false
  pub letter_on : has_letter spec.letters (letter_of (is_service_at inv object) after.status.code) ≡ true
  pub old : have_gone_by after.moments.since (directives_at inv (Some object)).first_notification_delay t ≡ true
  pub host_up : is_service_at inv object ≡ true → host_is_up w'.objects spec ≡ true
  pub settled : before.number ≡ 0 → is_service_at inv object ≡ true → have_gone_by (back_since (slice_get w'.objects spec.host_object)) inv.settle t ≡ true
  pub someone : 0 < length (nth_problem inv w t object after.status.code (before.number + 1)).contacts

-- where the entry is an applied result of the object that leaves a problem to notify, and `Free` holds of the
-- downtimes, its notice goes out at that moment, with the number after the one before
abbrev pub TellsTheProblem : Configuration → World → Entry → (object : ℕ) → (Free : Type 0) → Type 0
TellsTheProblem inv w e object Free = (code : ℕ) (output : List ℕ) (spec : ObjectSpec) (before after : Object) →
    (acted inv w e).1 ≡ Applied → named inv e.stamped.command ≡ Ok (acts.CheckResult object code output) →
    IsProblemToTell inv w (acted inv w e).0 (moment_of w e) object spec before after → Free →
    Contains (went_out w (acted inv w e).0) (nth_problem inv w (moment_of w e) object after.status.code (before.number + 1))

-- after all that is due by t, the object is in no downtime, and none waits for its problem
pub record IsUndisturbed (inv : Configuration) (w : World) (t object : ℕ) : Type 0 where
  pub no_downtime : IsInNoDowntime inv (advanced inv w t) object
  pub none_waits : all_waiting (advanced inv w t).downtimes object t ≡ []

-- the notice goes out in any world, where no downtime is active or waits when the entry has its effect
abbrev pub AProblemIsTold : Type 0
AProblemIsTold = (inv : Configuration) (w : World) (e : Entry) (object : ℕ) → TellsTheProblem inv w e object (IsUndisturbed inv w (moment_of w e) object)

-- and after any journal, where no downtime is active afterwards
abbrev pub AProblemIsToldAfterAnyJournal : Type 0
AProblemIsToldAfterAnyJournal = (inv : Configuration) (journal : List Entry) (e : Entry) (object : ℕ) → TellsTheProblem inv (meaning inv journal) e object (IsInNoDowntime inv (acted inv (meaning inv journal) e).0 object)

-- the world in which the notice of a result is looked for: what is due has happened, the object has taken the result,
-- and the flexible downtimes that the result starts have started
abbrev pub with_result_at : Configuration → World → Entry → (object code : ℕ) → (output : List ℕ) → ObjectSpec → Object → World
with_result_at inv w e object code output spec before = with_started inv (with_result inv (advanced inv w (moment_of w e)) object spec before code output) object

-- among these notices is this PROBLEM where nothing holds it back, and else no PROBLEM
abbrev pub TellsUnless : Option Withheld → (problem : Notice) → (new : List Notice) → Type 0
TellsUnless None problem new = Contains new problem
TellsUnless (Some why) problem new = All (λ n. n.subject.word ≢ words.Problem) new

-- with an applied result of a code that is not 0 the problem goes out exactly where no test of it fails
abbrev pub AProblemIsToldUnlessWithheld : Type 0
AProblemIsToldUnlessWithheld = (inv : Configuration) (w : World) (e : Entry) (object code : ℕ) (output : List ℕ) (spec : ObjectSpec) (before after : Object) →
    (acted inv w e).1 ≡ Applied → named inv e.stamped.command ≡ Ok (acts.CheckResult object code output) → code ≢ 0 →
    slice_get inv.objects object ≡ Some spec → slice_get w.objects object ≡ Some before →
    slice_get (with_result_at inv w e object code output spec before).objects object ≡ Some after →
    TellsUnless (withheld inv (with_result_at inv w e object code output spec before) Check object)
    (next_problem inv (with_result_at inv w e object code output spec before) object spec after)
    (went_out w (acted inv w e).0)

-- ---- a recovery is notified

-- the notice of a recovery with this number, to those whom the number and the letter r reach
abbrev pub recovery_of : Configuration → World → (moment object number : ℕ) → Notice
recovery_of inv w moment object number = record {
  subject = record { moment = moment; word = words.Recovery; object = object; code = 0; number = number };
  contacts = recipients inv w.contacts object number letter.R true;
}

-- the object, in this state before a result of code 0 at the moment t, is in a hard problem with a number above 0, and
-- nothing holds the notice of its recovery back
pub record IsRecoveryToTell (inv : Configuration) (w : World) (t object : ℕ) (spec : ObjectSpec) (before : Object) : Type 0 where
  pub known : slice_get inv.objects object ≡ Some spec
  pub found : slice_get w.objects object ≡ Some before
  pub problem : before.status.code ≢ 0
  pub hard : before.status.hard ≡ true
  pub numbered : 0 < before.number
  -- with the option the end goes to those who were notified of the problem
  pub without : recovers_the_told inv ≡ false
  pub program_on : w.program.notifications ≡ true
  pub object_on : before.notify ≡ true
  pub letter_on : spec.letters.r ≡ true
  pub no_downtime : IsInNoDowntime inv (advanced inv w t) object
  pub someone : 0 < length (recovery_of inv w t object before.number).contacts

-- with an applied result of code 0 after a problem to which this applies, the recovery goes out at that moment, with
-- the number that the problem had
abbrev pub ARecoveryIsTold : Type 0
ARecoveryIsTold = (inv : Configuration) (w : World) (e : Entry) (object : ℕ) (output : List ℕ) (spec : ObjectSpec) (before : Object) →
    (acted inv w e).1 ≡ Applied → named inv e.stamped.command ≡ Ok (acts.CheckResult object 0 output) →
    IsRecoveryToTell inv w (moment_of w e) object spec before →
    Contains (went_out w (acted inv w e).0) (recovery_of inv w (moment_of w e) object before.number)

-- ---- no problem is notified twice

-- a PROBLEM of this object with this code
pub record IsProblemOf (object code : ℕ) (s : Subject) : Type 0 where
  pub word_is : s.word ≡ words.Problem
  pub object_is : s.object ≡ object
  pub code_is : s.code ≡ code

-- the acts after which a problem of the object counts as another: a result of another code, a recovery too, and a
-- number that is set
abbrev pub BeginsAnew : (object code : ℕ) → Act → Type 0
BeginsAnew object code (acts.CheckResult x other _) = (x ≡ object) × (other ≢ code)
BeginsAnew object code (acts.Set x (settings.Number _)) = x ≡ object
BeginsAnew object code _ = ⊥

-- no entry of these, one after another from this world on, was applied and begins the problem anew
abbrev pub GoesOn : Configuration → (object code : ℕ) → World → List Entry → Type 0
GoesOn inv object code w [] = Unit {0}
GoesOn inv object code w (e ∷ es) = (AppliesOne inv e (step inv w e).1 (BeginsAnew object code) → ⊥) × GoesOn inv object code (step inv w e).0 es

-- the second notice is later than the first by at least the interval in force, which goes by the number before the
-- second and is not 0
pub record IsIntervalLater (inv : Configuration) (object code : ℕ) (first second : Subject) : Type 0 where
  pub number : ℕ
  pub next : second.number ≡ number + 1
  pub repeated : 0 < interval_in_force inv object number code
  pub later : first.moment + interval_in_force inv object number code ≤ second.moment

-- the act is a check result of the object
abbrev pub IsResultOf : (object : ℕ) → Act → Type 0
IsResultOf object (acts.CheckResult x _ _) = x ≡ object
IsResultOf object _ = ⊥

-- the entry was applied and is a result of the object, which is a volatile service
pub record IsVolatileResult (inv : Configuration) (object : ℕ) (e : Entry) (outcome : Outcome) : Type 0 where
  pub volatile : is_volatile inv object ≡ true
  pub by_result : AppliesOne inv e outcome (IsResultOf object)

-- two PROBLEM notices of an object with the same code, of two entries, where the problem remains the same after the first
-- of them up to the second and with it, are at least the interval in force apart, unless the second entry is a result of
-- a volatile service
abbrev pub NoProblemIsToldTwice : Type 0
NoProblemIsToldTwice = (inv : Configuration) (w : World) (first last : Entry) (between : List Entry) (object code : ℕ) (m n : Notice) →
    Contains (went_out w (step inv w first).0) m → IsProblemOf object code m.subject →
    GoesOn inv object code (step inv w first).0 (between ++ last ∷ []) →
    Contains (went_out (meaning_from inv (step inv w first).0 between) (step inv (meaning_from inv (step inv w first).0 between) last).0) n → IsProblemOf object code n.subject →
    IsIntervalLater inv object code m.subject n.subject
    ⊎ IsVolatileResult inv object last (step inv (meaning_from inv (step inv w first).0 between) last).1

-- what one entry does sends one PROBLEM at most
abbrev pub OneProblemAnEntry : Type 0
OneProblemAnEntry = (inv : Configuration) (w : World) (e : Entry) → count_by (λ n. is_problem_word n.subject.word) (went_out w (acted inv w e).0) ≤ 1

-- the notice is a PROBLEM of the object
abbrev pub is_problem_of : (object : ℕ) → Notice → Bool
is_problem_of object n = is_problem_word n.subject.word && (n.subject.object == object)

-- of each object one PROBLEM at most goes out with an entry
abbrev pub OneProblemAnObject : Type 0
OneProblemAnObject = (inv : Configuration) (w : World) (e : Entry) (object : ℕ) → count_by (is_problem_of object) (went_out w (step inv w e).0) ≤ 1
