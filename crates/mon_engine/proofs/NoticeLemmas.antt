-- What each notice says: its word and its object, and that its object and its contacts are there.
use Rattle.std.proofs.Common.{◌≡◌, ℕ, ◌<◌, Bool, true, false, nat_lt, if◌then◌else◌, List, [], length, Option, Some, None, All, slice_get, refl, arith, filter}
use Rattle.std.specs.List.{range_with_len}
use Rattle.std.specs.Prelude.{option_to_list}
use Rattle.std.proofs.lemmas.List.Elements.{All-nil, All-cons, All-filter, All-weaker}
use Rattle.std.proofs.lemmas.List.FromFn.{get_or-range_with_len, length-range_with_len}
use Rattle.std.proofs.lemmas.Option.{slice_get_within}
use Rattle.mon_downtime.specs.declared.downtime.Downtime.{Downtime}
use Rattle.mon_downtime.specs.declared.event.EventKind.{EventKind}
use Rattle.mon_downtime.specs.declared.event.EventKind.TheVariants.{Ends, Expires, Starts}
use Rattle.mon_inventory.specs.declared.records.ObjectSpec.{ObjectSpec}
use Rattle.mon_inventory.specs.Configuration.{Configuration}
use Rattle.mon_notify.specs.declared.contacts.ContactSwitch.{ContactSwitch}
use Rattle.mon_notify.specs.declared.letter.Letter.{Letter}
use Rattle.mon_notify.specs.Recipients.{recipients, is_told}
use Rattle.mon_notify.specs.Custom.{custom_recipients, is_custom_told}
use Rattle.mon_engine.specs.declared.object.Object.{Object}
use Rattle.mon_engine.specs.declared.notices.Occasion.{Occasion}
use Rattle.mon_engine.specs.declared.notice.Notice.{Notice}
use Rattle.mon_engine.specs.declared.notice.Subject.{Subject}
use Rattle.mon_engine.specs.declared.notice.Word.{Word}
use Rattle.mon_engine.specs.declared.notice.Word.TheVariants.{Problem, Recovery, Acknowledgement, DowntimeStart, DowntimeEnd, DowntimeCancelled, Custom}
use Rattle.mon_downtime.specs.Records.{record_of}
use Rattle.mon_engine.specs.World.{World}
use Rattle.mon_engine.specs.Notices.{addressed, of_object, downtime_notice_of, downtime_notice, acknowledgement_notice_of, acknowledgement_notice, problem_notice, recovery_notice, to_someone, custom_notice}
use Rattle.mon_engine.specs.Clock.{event_notice}
use Rattle.mon_engine.specs.Downtimes.{of_downtime, cancel_notice}
use Rattle.mon_engine.specs.Sound.{IsNoticeOf}

-- where there is a notice, it is one of these
abbrev pub IfAny : (Notice → Type 0) → Option Notice → Type 0
IfAny P n = All P (option_to_list n)

-- a notice of this word and object; it is one of the inventory
pub record IsAs (inv : Configuration) (word : Word) (object : ℕ) (n : Notice) : Type 0 where
  pub sound : IsNoticeOf inv n
  pub word_is : n.subject.word ≡ word
  pub object_is : n.subject.object ≡ object

pub sound_as : {inv : Configuration} {word : Word} {object : ℕ} (n : Option Notice) → IfAny (IsAs inv word object) n → IfAny (IsNoticeOf inv) n
sound_as {inv = inv} {word = word} {object = object} n h = All-weaker (IsAs inv word object) (IsNoticeOf inv) (λ x is. is.sound) (option_to_list n) h

-- whoever is told is a contact of the inventory
told_within : (p : ℕ → Bool) (n : ℕ) → All (λ c. c < n) (filter p (range_with_len 0 n))
told_within p n = All-filter p (λ c. c < n) (range_with_len 0 n) within
  where
    within : All (λ c. c < n) (range_with_len 0 n)
    within k d lt =
        let here : k < n = omega (arith, length-range_with_len 0 n) in
        rw (get_or-range_with_len 0 n k d here) (omega arith)

someone_as : (inv : Configuration) (s : Subject) (contacts : List ℕ) → s.object < length inv.objects → All (λ c. c < length inv.contacts) contacts → IfAny (IsAs inv s.word s.object) (to_someone s contacts)
someone_as inv s contacts within known = by_someone (nat_lt 0 (length contacts))
  where
    is : IsAs inv s.word s.object (record { subject = s; contacts = contacts })
    is = record { sound = record { object = within; contacts = known }; word_is = refl; object_is = refl }

    by_someone : (b : Bool) → IfAny (IsAs inv s.word s.object) (if b then Some (record { subject = s; contacts = contacts }) else None)
    by_someone true = All-cons (IsAs inv s.word s.object) (record { subject = s; contacts = contacts }) [] is (All-nil (IsAs inv s.word s.object))
    by_someone false = All-nil (IsAs inv s.word s.object)

-- a notice to contacts of the inventory about an object of it
pub to_someone_sound : (inv : Configuration) (s : Subject) (contacts : List ℕ) → s.object < length inv.objects → All (λ c. c < length inv.contacts) contacts → IfAny (IsNoticeOf inv) (to_someone s contacts)
to_someone_sound inv s contacts within known = sound_as (to_someone s contacts) (someone_as inv s contacts within known)

addressed_as : (inv : Configuration) (switches : List ContactSwitch) (s : Subject) (l : Letter) (escalate : Bool) → s.object < length inv.objects → IfAny (IsAs inv s.word s.object) (addressed inv switches s l escalate)
unfolding addressed recipients
addressed_as inv switches s l escalate within = someone_as inv s _ within (told_within (is_told inv switches s.object s.number l escalate) (length inv.contacts))

if_any : (P : Notice → Type 0) (n : Option Notice) (b : Bool) → IfAny P n → IfAny P (if b then n else None)
if_any P n true h = h
if_any P n false h = All-nil P

-- what is said of an object that is there
of_object_as : (P : Notice → Type 0) (inv : Configuration) (f : ObjectSpec → Object → Option Notice) (object : ℕ) (os : List Object) → (object < length inv.objects → (spec : ObjectSpec) (o : Object) → IfAny P (f spec o))
    → IfAny P (of_object None f (slice_get inv.objects object) (slice_get os object))
of_object_as P inv f object os h = by_object (slice_get inv.objects object) (slice_get os object) refl
  where
    by_object : (s : Option ObjectSpec) (o : Option Object) → slice_get inv.objects object ≡ s → IfAny P (of_object None f s o)
    by_object None o e = All-nil P
    by_object (Some spec) None e = All-nil P
    by_object (Some spec) (Some o) e = h (slice_get_within inv.objects object spec e) spec o

-- ---- each kind of notice

pub downtime_notice_as : (inv : Configuration) (w : World) (word : Word) (moment object : ℕ) → IfAny (IsAs inv word object) (downtime_notice inv w word moment object)
unfolding downtime_notice
downtime_notice_as inv w word moment object =
    of_object_as (IsAs inv word object) inv (downtime_notice_of inv w word moment object) object w.objects (λ h spec o. if_any (IsAs inv word object) _ _ (addressed_as inv w.contacts _ _ false h))

pub acknowledgement_notice_as : (inv : Configuration) (w : World) (object : ℕ) → IfAny (IsAs inv Acknowledgement object) (acknowledgement_notice inv w object)
unfolding acknowledgement_notice
acknowledgement_notice_as inv w object =
    of_object_as (IsAs inv Acknowledgement object) inv (acknowledgement_notice_of inv w object) object w.objects (λ h spec o. if_any (IsAs inv Acknowledgement object) _ _ (addressed_as inv w.contacts _ _ true h))

pub problem_notice_as : (inv : Configuration) (w : World) (occasion : Occasion) (object : ℕ) (spec : ObjectSpec) (o : Object) → object < length inv.objects → IfAny (IsAs inv Problem object) (problem_notice inv w occasion object spec o)
unfolding problem_notice
problem_notice_as inv w occasion object spec o h = if_any (IsAs inv Problem object) _ _ (addressed_as inv w.contacts _ _ true h)

pub recovery_notice_as : (inv : Configuration) (w : World) (object : ℕ) (hard : Bool) (spec : ObjectSpec) (o : Object) → object < length inv.objects → IfAny (IsAs inv Recovery object) (recovery_notice inv w object hard spec o)
unfolding recovery_notice
recovery_notice_as inv w object hard spec o h = if_any (IsAs inv Recovery object) _ _ (addressed_as inv w.contacts _ _ true h)

pub custom_notice_as : (inv : Configuration) (w : World) (object number options : ℕ) (spec : ObjectSpec) (o : Object) → object < length inv.objects → IfAny (IsAs inv Custom object) (custom_notice inv w object number options spec o)
unfolding custom_notice custom_recipients
custom_notice_as inv w object number options spec o h =
    if_any (IsAs inv Custom object) _ _ (someone_as inv _ _ h (told_within (is_custom_told inv w.contacts object number o.status.code options) (length inv.contacts)))

abbrev pub is_of_downtime : Word → Bool
is_of_downtime DowntimeStart = true
is_of_downtime DowntimeEnd = true
is_of_downtime DowntimeCancelled = true
is_of_downtime word = false

-- an event's notice is one of a downtime
pub event_notice_as : (P : Notice → Type 0) (inv : Configuration) (w : World) (kind : EventKind) (moment : ℕ) (d : Option Downtime)
    → ((word : Word) (object : ℕ) → is_of_downtime word ≡ true → IfAny P (downtime_notice inv w word moment object)) → IfAny P (event_notice inv w kind moment d)
event_notice_as P inv w kind moment None h = All-nil P
event_notice_as P inv w Ends moment (Some d) h = h DowntimeEnd d.object refl
event_notice_as P inv w Expires moment (Some d) h = All-nil P
event_notice_as P inv w Starts moment (Some d) h = h DowntimeStart d.object refl

pub cancel_notice_as : (P : Notice → Type 0) (inv : Configuration) (w : World) (id : ℕ) → ((object : ℕ) → IfAny P (downtime_notice inv w DowntimeCancelled w.clock object)) → IfAny P (cancel_notice inv w id)
cancel_notice_as P inv w id h = by_downtime (record_of w.downtimes id)
  where
    by_downtime : (d : Option Downtime) → IfAny P (of_downtime (λ d. downtime_notice inv w DowntimeCancelled w.clock d.object) d)
    by_downtime None = All-nil P
    by_downtime (Some d) = h d.object
