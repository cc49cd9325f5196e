use Rattle.std.proofs.Common.{List, ap, ◌∙◌}
use Rattle.mon_notes.specs.declared.comment.Comment.{Comment}
use Rattle.mon_notes.proofs.DropLemmas.{of_transient}
use Rattle.mon_notes.proofs.notes.Notes.drop_transient.Goals as goal

pub returns : goal.returns
returns c = c.drop_all.ensures ∙ ap (λ (cs : List Comment). record { comments = cs; last_id = c.args.self.now.last_id }) (of_transient c.args.self.now.comments)
