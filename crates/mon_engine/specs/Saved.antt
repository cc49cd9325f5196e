-- A world that is written and read back, and the world from which a monitor then resumes.
use Rattle.std.specs.Prelude.{◌≡◌, ℕ, false, ◌+◌, ◌*◌, ◌<◌, ◌≤◌, List, [], length, IfSome, All}
use Rattle.cmd_types.specs.declared.limits.TheConstants.{GREATEST_NUMBER}
use Rattle.cmd_types.specs.Bytes.{Lacks}
use Rattle.mon_checks.specs.States.{IsCodeOf}
use Rattle.mon_notes.specs.declared.comment.Comment.{Comment}
use Rattle.mon_notes.specs.Comments.{IsCommentList}
use Rattle.mon_downtime.specs.declared.downtime.Downtime.{Downtime}
use Rattle.mon_downtime.specs.Records.{AreRecords}
use Rattle.mon_inventory.specs.declared.records.ObjectSpec.{ObjectSpec}
use Rattle.mon_inventory.specs.Configuration.{Configuration, recovers_the_told}
use Rattle.mon_engine.specs.declared.ends.Owed.{Owed}
use Rattle.mon_engine.specs.declared.object.Object.{Object}
use Rattle.mon_engine.specs.declared.object.Moments.{Moments}
use Rattle.mon_engine.specs.declared.state.TheConstants.{GREATEST_BEFORE}
use Rattle.mon_engine.specs.Owed.{nobody}
use Rattle.mon_engine.specs.World.{World}
use Rattle.mon_engine.specs.Sound.{IsObjectState, ever, IsWorld}

-- ---- what a command may have said

-- an author has no semicolon, and neither an author nor a text a line feed
pub record IsSaid (author text : List ℕ) : Type 0 where
  pub no_semicolon : Lacks 59 author
  pub author_line : Lacks 10 author
  pub text_line : Lacks 10 text

-- the moments of an object are in range
pub record AreMoments (t : Moments) : Type 0 where
  pub checked : IfSome t.checked (λ moment. moment ≤ GREATEST_NUMBER)
  pub changed : t.changed ≤ GREATEST_NUMBER
  pub since : IfSome t.since (λ moment. moment ≤ GREATEST_NUMBER)

-- the code, the moments and the output of an object are in range
pub record IsSaidObject (o : Object) : Type 0 where
  pub code : IsCodeOf o.status.service o.status.code
  pub last : IfSome o.last (λ moment. moment ≤ GREATEST_NUMBER)
  pub notified : IfSome o.notified (λ code. code < 4)
  pub not_before : IfSome o.not_before (λ moment. moment ≤ GREATEST_NUMBER)
  pub moments : AreMoments o.moments
  pub output : Lacks 10 o.output

-- the moment and the texts of a comment are in range
pub record IsSaidComment (c : Comment) : Type 0 where
  pub time : c.time ≤ GREATEST_NUMBER
  pub said : IsSaid c.author c.text

-- the texts of a downtime are those of a command
abbrev pub IsSaidDowntime : Downtime → Type 0
IsSaidDowntime d = IsSaid d.plan.author d.plan.text

-- codes, moments and texts are in the ranges of a command's: a text is part of one line
pub record IsSaidWorld (w : World) : Type 0 where
  pub objects : All IsSaidObject w.objects
  pub comments : All IsSaidComment w.notes.comments
  pub downtimes : All IsSaidDowntime w.downtimes

-- the object fits this line of the inventory after this number of entries
pub record Fits (before : ℕ) (spec : ObjectSpec) (o : Object) : Type 0 where
  pub state : IsObjectState spec o
  pub number : o.number ≤ GREATEST_NUMBER + 2 * before
  pub said : IsSaidObject o

-- who is owed an end fits the inventory after this number of entries
pub record IsOwedFit (inv : Configuration) (before : ℕ) (x : Owed) : Type 0 where
  pub within : All (λ c. c < length inv.contacts) x.contacts
  pub number : x.number ≤ GREATEST_NUMBER + 2 * before
  pub without : recovers_the_told inv ≡ false → x ≡ nobody

-- ---- what is written and read back

-- all has been printed, and there is room to count on: a condition that holds of each world that entries lead to, once
-- it has printed all
pub record IsSaved (inv : Configuration) (w : World) : Type 0 where
  pub world : IsWorld inv w
  pub notes : IsCommentList w.notes
  pub records : AreRecords 0 w.downtimes
  pub said : IsSaidWorld w
  pub no_rejections : w.rejections ≡ []
  pub no_notices : w.notices ≡ []
  pub room : ever w ≤ GREATEST_BEFORE

-- the world from which a monitor resumes: its entries are counted anew, after all that there ever were
abbrev pub going_on : World → World
going_on w = record w { entries = 0; before = ever w }
