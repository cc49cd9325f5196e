use Rattle.std.proofs.Common.{rules, not, ap, ◌∙◌}
use Rattle.std.specs.List.{filter}
use Rattle.std.proofs.lemmas.Fn.{filter_same}
use Rattle.mon_notes.specs.declared.comment.Comment.{Comment}
use Rattle.mon_notes.specs.Listed.{goes}
use Rattle.mon_notes.proofs.row.CommentRow.remove_matching.Goals as goal

pub returns : goal.returns
returns c =
    let stays = λ (x : Comment). not (goes c.args.group x) in
    rw (← c.self.view_is) (filter_same _ stays _ (λ x b f' k. search rules) _ _ c.retain.ensures.filtered ∙ ap (filter stays) c.drop_front.ensures)
