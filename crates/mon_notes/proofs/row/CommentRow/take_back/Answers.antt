use Rattle.std.proofs.Common.{ap, drop, ◌∙◌}
use Rattle.mon_notes.proofs.RowLemmas.{taken_back}
use Rattle.mon_notes.proofs.row.CommentRow.take_back.Goals as goal

pub returns : goal.returns
returns c = rw (← c.self.view_is) (ap (drop c.self.inside.start) c.remove-gone.ensures.items ∙ taken_back c.self.inside.start c.args.at c.self.inside.comments.items)
