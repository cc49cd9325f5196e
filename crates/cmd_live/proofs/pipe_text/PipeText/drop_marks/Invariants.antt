-- What stays true in the loop of `drop_marks`, and what falls.
use Rattle.std.proofs.Common.{◌≡◌, vec_len}
use Rattle.cmd_live.specs.PipeTexts.{LosesMarks}
use Rattle.cmd_live.proofs.pipe_text.PipeText.drop_marks.Given as goal

abbrev pub invariant-marks : goal.invariant-marks
invariant-marks l = record {
  marks : LosesMarks l.fn.self.bytes.items l.self.bytes.items;
  given : l.self.given ≡ l.fn.self.given;
}

abbrev pub decreases-marks : goal.decreases-marks
decreases-marks l = vec_len l.self.bytes
