use Rattle.gateway.proofs.EndLemmas.{ends_turn, ends_due}
use Rattle.gateway.proofs.ends.lines_of.Goals as goal

pub loop-number-preserved : goal.loop-number-preserved
loop-number-preserved g c =
    ends_turn (λ f. f.report) c.args.run.now.clock c.loop-number.text.items c.put_end.new.out.items _ c.args.feeds.now c.loop-number.number c.index-feeds-number.result c.loop-number-test.true c.in_ok-put_end.ensures c.loop-number.invariant

pub returns : goal.returns
returns g c = ends_due (λ f. f.report) c.args.run.now.clock c.args.run.now.call.now.asked.now.following.drain c.loop-number.text.items c.args.feeds.now c.loop-number.number c.if-not-run.false c.loop-number-test.false c.loop-number.invariant
