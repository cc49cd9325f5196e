use Rattle.std.proofs.Common.{◌≡◌, ◌++◌, filter_map}
use Rattle.std.specs.Vec.Iter.{into_iter_items}
use Rattle.mon_carry.specs.Carried.{comment_carried}
use Rattle.mon_carry.proofs.comments.carry_comments.Given as goal

abbrev pub invariant-loop-comment : goal.invariant-loop-comment
invariant-loop-comment l = l.carried.items ++ filter_map (comment_carried l.old.objects l.new.objects) (into_iter_items l.comment-iterator) ≡ filter_map (comment_carried l.old.objects l.new.objects) l.fn.comments.items
