use Rattle.std.proofs.Common.{◌≡◌, ℕ, ◌<◌, drop}
use Rattle.mon_notes.specs.Comments.{AreWithin, id_before, ComesAfter}
use Rattle.mon_notes.proofs.restoring.misplaced.Given as goal

-- the comments that are left are in order just where all are, and each before them comes after the one before it
abbrev pub invariant-loop-place : goal.invariant-loop-place
invariant-loop-place l = record {
  on : AreWithin 0 l.last_id l.comments → AreWithin l.low l.last_id (drop l.place l.comments);
  back : AreWithin l.low l.last_id (drop l.place l.comments) → AreWithin 0 l.last_id l.comments;
  low : l.low ≡ id_before l.comments l.place;
  earlier : (k : ℕ) → k < l.place → ComesAfter l.last_id l.comments k;
}
