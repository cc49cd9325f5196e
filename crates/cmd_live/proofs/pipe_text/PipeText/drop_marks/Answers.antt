use Rattle.std.proofs.Common.{suc}
use Rattle.cmd_live.proofs.pipe_text.PipeText.drop_marks.Goals as goal

pub marks-preserved : goal.marks-preserved
marks-preserved c = record {
  marks = (suc c.marks.invariant.marks.0, (c.marks.self.bytes.items, c.marks.invariant.marks.1, c.marks-test.ensures.out));
  given = c.marks.invariant.given;
}
