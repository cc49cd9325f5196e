use Rattle.std.proofs.Common.{◌++◌, ap, ◌∙◌}
use Rattle.mon_state.specs.Feeds.{feed_lines}
use Rattle.mon_state.proofs.TextLemmas.{grows_on, put_next_index}
use Rattle.mon_state.proofs.FeedLemmas.{lines_at}
use Rattle.mon_state.proofs.feeds.put_each.Goals as goal

pub loop-number-preserved : goal.loop-number-preserved
loop-number-preserved c =
    let so_far = c.loop-number.invariant in
    let here = lines_at c.args.feeds.now c.loop-number.number c.index-feeds-number.result _ c.loop-number-test.true c.index-feeds-number.is in
    record {
      put = put_next_index (feed_lines c.args.feeds.now) c.loop-number.number c.args.out.now.items c.loop-number.out.items c.put_lines.new.out.items so_far.put (c.in_ok-put_lines.ensures.ok ∙ ap (λ l. c.loop-number.out.items ++ l) here);
      grown = grows_on _ _ _ so_far.grown c.put_lines.ensures.grown;
    }

pub returns-in_err-put_lines-clause-grown : goal.returns-in_err-put_lines-clause-grown
returns-in_err-put_lines-clause-grown c = grows_on _ _ _ c.loop-number.invariant.grown c.put_lines.ensures.grown
