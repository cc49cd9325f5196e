use Rattle.mon_state.specs.State.{comment_line}
use Rattle.mon_state.proofs.TextLemmas.{grows_on, put_next, put_last}
use Rattle.mon_state.proofs.writing.put_comments.Goals as goal

pub loop-comment-preserved : goal.loop-comment-preserved
loop-comment-preserved c =
    let so_far = c.loop-comment.invariant in
    record {
      put = put_next (comment_line c.args.inventory.now.objects) c.args.comments.now c.loop-comment.comment-index c.comment-item.result _ c.loop-comment.out.items c.put_comment.new.out.items _ c.loop-comment-test.true c.comment-item.is so_far.put c.in_ok-put_comment.ensures.ok;
      grown = grows_on _ _ _ so_far.grown c.put_comment.ensures.grown;
    }

pub returns-in_err-put_comment-clause-grown : goal.returns-in_err-put_comment-clause-grown
returns-in_err-put_comment-clause-grown c = grows_on _ _ _ c.loop-comment.invariant.grown c.put_comment.ensures.grown

pub returns-clause-ok : goal.returns-clause-ok
returns-clause-ok c = put_last (comment_line c.args.inventory.now.objects) c.args.comments.now c.loop-comment.comment-index c.loop-comment.out.items _ c.loop-comment-test.false c.loop-comment.invariant.put
