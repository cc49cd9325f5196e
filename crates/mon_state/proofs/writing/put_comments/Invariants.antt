use Rattle.std.proofs.Common.{◌≡◌, ◌++◌, drop}
use Rattle.std.specs.List.{flat_map}
use Rattle.cmd_types.specs.Growth.{Grows}
use Rattle.mon_state.specs.State.{comment_line}
use Rattle.mon_state.proofs.writing.put_comments.Given as goal

abbrev pub invariant-loop-comment : goal.invariant-loop-comment
invariant-loop-comment l = record {
  put : l.out.items ++ flat_map (comment_line l.inventory.objects) (drop l.comment-index l.comments) ≡ l.fn.out.items ++ flat_map (comment_line l.inventory.objects) l.comments;
  grown : Grows l.fn.out.items l.out.items;
}
