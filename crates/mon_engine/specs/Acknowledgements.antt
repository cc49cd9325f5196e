-- Acknowledgements and the comments that go with them; the commands that delete comments.
use Rattle.std.specs.Prelude.{ℕ, ◌==◌, Bool, true, false, if◌then◌else◌, List, Option, Some, None, Result, Ok, Err, slice_get}
use Rattle.mon_notes.specs.declared.comment.Comment.{Comment}
use Rattle.mon_notes.specs.Comments.{comment_of, with_comment, without, without_acknowledged}
use Rattle.mon_inventory.specs.Configuration.{Configuration}
use Rattle.mon_engine.specs.declared.object.Object.{Object}
use Rattle.mon_engine.specs.declared.object.Kind.{Kind}
use Rattle.mon_engine.specs.declared.outcome.Reason.{Reason}
use Rattle.mon_engine.specs.declared.outcome.Reason.TheVariants.{UnknownHost, NoSuchComment, NotAProblem}
use Rattle.mon_engine.specs.declared.object.Acknowledgement.TheVariants.{Unacknowledged}
use Rattle.mon_engine.specs.Places.{changed_at}
use Rattle.mon_engine.specs.Objects.{is_kind, is_acknowledged, with_acknowledgement, acknowledgement_of}
use Rattle.mon_engine.specs.World.{World}
use Rattle.mon_engine.specs.Notices.{told, acknowledgement_notice}

-- a comment at the world's clock
abbrev pub commented : World → (object : ℕ) → (ack persistent : Bool) → (author text : List ℕ) → World
commented w object ack persistent author text = record w { notes = with_comment w.notes object ack persistent w.clock author text }

-- the acknowledgement is set, and its comment added
abbrev pub acknowledge : World → (object sticky : ℕ) → (persistent : Bool) → (author text : List ℕ) → World
acknowledge w object sticky persistent author text = record (commented w object true persistent author text) {
  objects = changed_at w.objects object (with_acknowledgement (acknowledgement_of sticky));
}

-- the notice of an acknowledgement goes out where it is asked for
abbrev pub told_acknowledged : Configuration → World → (object : ℕ) → (notify : Bool) → World
told_acknowledged inv w object notify = if notify then told w (acknowledgement_notice inv w object) else w

-- An object with code 0 cannot be acknowledged. An acknowledgement replaces an earlier one, whose comments stay.
-- The object is there (as `of_object` says), so that the line of none is never read.
abbrev pub acknowledged_by : Configuration → World → (object sticky : ℕ) → (notify persistent : Bool) → (author text : List ℕ) → Option Object → Result World Reason
acknowledged_by inv w object sticky notify persistent author text None = Err UnknownHost
acknowledged_by inv w object sticky notify persistent author text (Some o) =
    if o.status.code == 0 then Err NotAProblem else Ok (told_acknowledged inv (acknowledge w object sticky persistent author text) object notify)

-- the world after an acknowledgement, or why it is rejected
unfoldable pub after_acknowledge : Configuration → World → (object sticky : ℕ) → (notify persistent : Bool) → (author text : List ℕ) → Result World Reason
after_acknowledge inv w object sticky notify persistent author text = acknowledged_by inv w object sticky notify persistent author text (slice_get w.objects object)

-- the acknowledgement is removed, where there is one; here too the object is there
abbrev pub unacknowledged_by : World → (object : ℕ) → Option Object → World
unacknowledged_by w object None = w
unacknowledged_by w object (Some o) = if is_acknowledged o.acknowledgement then record w {
  objects = changed_at w.objects object (with_acknowledgement Unacknowledged);
  notes = without_acknowledged object w.notes;
} else w

-- the world without the object's acknowledgement, and without its acknowledgement comments that are not persistent
unfoldable pub after_unacknowledge : World → (object : ℕ) → World
after_unacknowledge w object = unacknowledged_by w object (slice_get w.objects object)

-- the comment is there, and is of that kind of object
abbrev pub has_comment_by : Configuration → (kind : Kind) → Option Comment → Bool
has_comment_by inv kind None = false
has_comment_by inv kind (Some c) = is_kind kind (slice_get inv.objects c.object)

-- the world without the comment, or why that is rejected
unfoldable pub after_del_comment : Configuration → World → (kind : Kind) → (id : ℕ) → Result World Reason
after_del_comment inv w kind id =
    if has_comment_by inv kind (comment_of w.notes.comments id) then Ok (record w { notes = without id w.notes }) else Err NoSuchComment
