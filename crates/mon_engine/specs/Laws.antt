-- What an entry may change, for any world that it finds: laws over the definitions, by what the entry asks for
-- (`asked` in Effects, one line for each command).
use Rattle.std.specs.Prelude.{◌≡◌, ◌≢◌, ◌⊎◌, ℕ, ◌+◌, true, false, List, [], ◌∷◌, ◌++◌, Option, Some, None, Ok, slice_get, max, All, Contains}
use Rattle.cmd_types.specs.declared.entry.Entry.{Entry}
use Rattle.mon_checks.specs.States.{recovers}
use Rattle.mon_notes.specs.declared.comment.Comment.{Comment}
use Rattle.mon_notes.specs.Comments.{comment_of}
use Rattle.mon_downtime.specs.Records.{depth_of}
use Rattle.mon_notify.specs.Letters.{letter_of, has_letter}
use Rattle.mon_notify.specs.Viable.{is_delayed, have_gone_by}
use Rattle.mon_inventory.specs.declared.records.ObjectSpec.{ObjectSpec}
use Rattle.mon_inventory.specs.Configuration.{Configuration, directives_at}
use Rattle.mon_engine.specs.declared.notice.Notice.{Notice}
use Rattle.mon_engine.specs.declared.notice.Subject.{Subject}
use Rattle.mon_engine.specs.declared.notice.Word.TheVariants.{Problem}
use Rattle.mon_engine.specs.declared.object.Acknowledgement.{Acknowledgement}
use Rattle.mon_engine.specs.declared.object.Acknowledgement.TheVariants.{Unacknowledged, Normal}
use Rattle.mon_engine.specs.declared.object.Object.{Object}
use Rattle.mon_engine.specs.declared.outcome.Outcome.{Outcome}
use Rattle.mon_engine.specs.declared.outcome.Outcome.TheVariants.{Applied, Rejected}
use Rattle.mon_engine.specs.declared.outcome.Reason.{Reason}
use Rattle.mon_engine.specs.Objects.{is_service, host_is_up, back_since, is_acknowledged, acknowledgement_of}
use Rattle.mon_engine.specs.World.{World}
use Rattle.mon_engine.specs.Acknowledgements.{has_comment_by}
use Rattle.mon_engine.specs.Effects as acts
use Rattle.mon_engine.specs.Effects.{Act, named}
use Rattle.mon_engine.specs.Clock.{due_in, advanced}
use Rattle.mon_engine.specs.Step.{acted, step}

-- the moment of an entry: its time, or the clock where that is greater
abbrev pub moment_of : World → Entry → ℕ
moment_of w e = max w.clock e.stamped.time

-- an entry of this outcome was applied, and what its command asks for is one of these acts
pub record AppliesOne (inv : Configuration) (e : Entry) (outcome : Outcome) (These : Act → Type 0) : Type 0 where
  pub applied : outcome ≡ Applied
  pub does : Act
  pub asked_for : named inv e.stamped.command ≡ Ok does
  pub among : These does

-- ---- an acknowledgement is not lost

-- the acknowledgement of an object that is there
abbrev pub acknowledgement_in : Option Object → Acknowledgement
acknowledgement_in None = Unacknowledged
acknowledgement_in (Some o) = o.acknowledgement

-- the acknowledgement of the object of this index
abbrev pub acknowledgement_at : World → (object : ℕ) → Acknowledgement
acknowledgement_at w object = acknowledgement_in (slice_get w.objects object)

-- a result of this code ends the acknowledgement of the object: the object recovers, or its code changes and the
-- acknowledgement is a normal one
abbrev pub EndsAcknowledgement : Object → (code : ℕ) → Type 0
EndsAcknowledgement o code = (recovers o.status code ≡ true) ⊎ ((o.acknowledgement ≡ Normal) × (o.status.code ≢ code))

-- the acts that may change the acknowledgement of this object, and what they make of it
abbrev pub MakesOfAcknowledgement : (object : ℕ) → Object → Acknowledgement → Act → Type 0
MakesOfAcknowledgement object o a (acts.Acknowledge x sticky _ _ _ _) = (x ≡ object) × (a ≡ acknowledgement_of sticky)
MakesOfAcknowledgement object o a (acts.RemoveAcknowledgement x) = (x ≡ object) × (a ≡ Unacknowledged)
MakesOfAcknowledgement object o a (acts.CheckResult x code _) = (x ≡ object) × (a ≡ Unacknowledged) × EndsAcknowledgement o code
MakesOfAcknowledgement object o a _ = ⊥

-- after an entry an object's acknowledgement is what it was, unless the entry was applied and asked for one of
-- these acts
abbrev pub AcknowledgementsStand : Type 0
AcknowledgementsStand = (inv : Configuration) (w : World) (e : Entry) (object : ℕ) (o : Object) → slice_get w.objects object ≡ Some o →
    (acknowledgement_at (acted inv w e).0 object ≡ o.acknowledgement)
    ⊎ AppliesOne inv e (acted inv w e).1 (MakesOfAcknowledgement object o (acknowledgement_at (acted inv w e).0 object))

-- ---- a rejected entry changes nothing

-- the clock moves on, the events that are due by then happen with their notices, the rejection is listed, and the entry
-- counts; nothing else changes
abbrev pub RejectedEntriesChangeNothing : Type 0
RejectedEntriesChangeNothing = (inv : Configuration) (w : World) (e : Entry) (why : Reason) → (acted inv w e).1 ≡ Rejected why →
    (acted inv w e).0 ≡ record w {
      clock = moment_of w e;
      downtimes = (advanced inv w (moment_of w e)).downtimes;
      notices = (advanced inv w (moment_of w e)).notices;
      rejections = w.rejections ++ record { sender = e.sender; place = e.place; reason = why } ∷ [];
      entries = w.entries + 1;
    }

-- ---- what is applied twice shows

-- the comment that an act adds at this time and under this id: one of its own, or that of an acknowledgement
abbrev pub comment_by : Act → (time id : ℕ) → Option Comment
comment_by (acts.AddComment object persistent author text) time id = Some (record { id = id; object = object; ack = false; persistent = persistent; time = time; author = author; text = text })
comment_by (acts.Acknowledge object _ _ persistent author text) time id = Some (record { id = id; object = object; ack = true; persistent = persistent; time = time; author = author; text = text })
comment_by _ time id = None

-- where an entry is applied whose act adds a comment, a next entry with the same command is applied too, and two
-- comments are added, under the next two ids
abbrev pub DoubledCommentsShow : Type 0
DoubledCommentsShow = (inv : Configuration) (w : World) (first second : Entry) (a : Act) (c d : Comment) → (step inv w first).1 ≡ Applied → named inv first.stamped.command ≡ Ok a → second.stamped.command ≡ first.stamped.command →
    comment_by a (moment_of w first) (w.notes.last_id + 1) ≡ Some c →
    comment_by a (moment_of (step inv w first).0 second) (w.notes.last_id + 2) ≡ Some d →
    ((step inv (step inv w first).0 second).1 ≡ Applied)
    × ((step inv (step inv w first).0 second).0.notes ≡ record { comments = w.notes.comments ++ c ∷ d ∷ []; last_id = w.notes.last_id + 2 })

-- ---- the clock

-- after an entry nothing is due at the clock
abbrev pub NothingIsDue : Type 0
NothingIsDue = (inv : Configuration) (w : World) (e : Entry) → due_in (step inv w e).0 (step inv w e).0.clock ≡ None

-- ---- a problem is not notified while its notices are suppressed

-- nothing suppresses this notice of the object's problem: it is hard and not acknowledged, its options have the letter of
-- its state, no delay is to come, the first notification delay is over, the host of a service is UP, and came back long
-- enough ago for a first notice, neither the object nor that host is in a downtime, and both switches are on
pub record IsUnsuppressed (inv : Configuration) (w : World) (s : Subject) : Type 0 where
  pub spec : ObjectSpec
  pub of : Object
  pub known : slice_get inv.objects s.object ≡ Some spec
  pub there : slice_get w.objects s.object ≡ Some of
  pub unacknowledged : is_acknowledged of.acknowledgement ≡ false
  pub depth : depth_of w.downtimes s.object ≡ 0
  pub host_depth : is_service spec ≡ true → depth_of w.downtimes spec.host_object ≡ 0
  pub object_on : of.notify ≡ true
  pub program_on : w.program.notifications ≡ true
  pub hard : of.status.hard ≡ true
  pub letter_on : has_letter spec.letters (letter_of (is_service spec) of.status.code) ≡ true
  pub not_delayed : is_delayed of.not_before w.clock ≡ false
  pub old : have_gone_by of.moments.since (directives_at inv (Some s.object)).first_notification_delay w.clock ≡ true
  pub host_up : is_service spec ≡ true → host_is_up w.objects spec ≡ true
  pub settled : s.number ≡ 1 → is_service spec ≡ true → have_gone_by (back_since (slice_get w.objects spec.host_object)) inv.settle w.clock ≡ true

-- The notices so far stay, and each PROBLEM among the new ones is of an object whose notices nothing suppresses
-- afterwards. An acknowledgement that the result ended does not suppress them; a downtime that the result started
-- does.
pub record TellsOfProblems (inv : Configuration) (w w' : World) : Type 0 where
  pub new : List Notice
  pub behind : w'.notices ≡ w.notices ++ new
  pub problems : All (λ n. n.subject.word ≡ Problem → IsUnsuppressed inv w' n.subject) new

-- an entry sends a PROBLEM only of an object whose notices nothing suppresses
abbrev pub SuppressedProblemsAreNotTold : Type 0
SuppressedProblemsAreNotTold = (inv : Configuration) (w : World) (e : Entry) → TellsOfProblems inv w (step inv w e).0

-- ---- a comment is not lost

-- the comment is of an acknowledgement and not persistent, and its object was acknowledged before and is not any more
pub record GoesWithAcknowledgement (w w' : World) (c : Comment) : Type 0 where
  pub ack : c.ack ≡ true
  pub transient : c.persistent ≡ false
  pub stood : is_acknowledged (acknowledgement_at w c.object) ≡ true
  pub gone : acknowledgement_at w' c.object ≡ Unacknowledged

-- the acts that remove a comment: by its id, where it is of their kind of object; with all comments of its object;
-- at a restart where it is not persistent; and any act that ends its object's acknowledgement
abbrev pub RemovesComment : Configuration → (w w' : World) → Comment → Act → Type 0
RemovesComment inv w w' c (acts.DelComment kind id) = (c.id ≡ id) × (has_comment_by inv kind (comment_of w.notes.comments id) ≡ true)
RemovesComment inv w w' c (acts.DelAllComments object) = object ≡ c.object
RemovesComment inv w w' c acts.Restart = c.persistent ≡ false
RemovesComment inv w w' c (acts.RemoveAcknowledgement _) = GoesWithAcknowledgement w w' c
RemovesComment inv w w' c (acts.CheckResult _ _ _) = GoesWithAcknowledgement w w' c
RemovesComment inv w w' c _ = ⊥

-- a comment that is there before an entry is there after it, unless the entry was applied and asked for one of these
-- acts
abbrev pub CommentsStand : Type 0
CommentsStand = (inv : Configuration) (w : World) (e : Entry) (c : Comment) → Contains w.notes.comments c →
    Contains (acted inv w e).0.notes.comments c
    ⊎ AppliesOne inv e (acted inv w e).1 (RemovesComment inv w (acted inv w e).0 c)
