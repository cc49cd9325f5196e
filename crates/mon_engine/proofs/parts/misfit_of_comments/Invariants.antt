use Rattle.std.proofs.Common.{ℕ, ◌<◌, get_or}
use Rattle.mon_notes.specs.declared.comment.Comment.{Comment}
use Rattle.mon_engine.specs.Saved.{IsSaidComment}
use Rattle.mon_engine.proofs.parts.misfit_of_comments.Given as goal

abbrev pub invariant-loop-place : goal.invariant-loop-place
invariant-loop-place l = (k : ℕ) (d : Comment) → k < l.place → ((get_or l.comments k d).object < l.objects) × IsSaidComment (get_or l.comments k d)
