use Rattle.std.proofs.Common.{List, not, ap, ◌∙◌}
use Rattle.mon_notes.specs.declared.comment.Comment.{Comment}
use Rattle.mon_notes.specs.Comments.{kept}
use Rattle.mon_notes.specs.Listed.{goes}
use Rattle.mon_notes.proofs.IdLemmas.{IsCommentList-kept}
use Rattle.mon_notes.proofs.ListedLemmas.{listed_gone}
use Rattle.mon_notes.proofs.notes.Notes.drop_all.Goals as goal

pub drop_group-requires-clause-among : goal.drop_group-requires-clause-among
drop_group-requires-clause-among c = rw c.of.ensures (c.self.invariant.listed c.args.group)

pub invariant_of-self : goal.invariant_of-self
invariant_of-self c =
    let n = c.self.inside in
    record {
      list = rw c.drop_group.ensures (IsCommentList-kept (λ (x : Comment). not (goes c.args.group x)) _ c.self.invariant.list);
      listed = rw c.drop_group.ensures (listed_gone n.lists c.clear.new.self c.args.group n.row c.clear.ensures c.self.invariant.listed);
    }

pub returns : goal.returns
returns c =
    let n = c.self.inside in
    ap (λ (cs : List Comment). record { comments = cs; last_id = n.last_id }) c.drop_group.ensures ∙ ap (kept (λ (x : Comment). not (goes c.args.group x))) c.self.view_is
