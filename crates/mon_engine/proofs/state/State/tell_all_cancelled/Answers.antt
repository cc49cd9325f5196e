use Rattle.std.proofs.Common.{arith}
use Rattle.mon_engine.proofs.StartLemmas.{told_on, told_last}
use Rattle.mon_engine.proofs.state.State.tell_all_cancelled.Goals as goal

pub loop-id-preserved : goal.loop-id-preserved
loop-id-preserved c =
    told_on c.args.inventory.now c.args.self.now c.loop-id.self c.tell_cancelled.new.self c.args.ids.now c.loop-id.id-index _ (omega arith) c.loop-id.invariant.timely c.in_ok-tell_cancelled.ensures c.loop-id.invariant.rest

pub returns : goal.returns
returns c = told_last c.args.inventory.now c.loop-id.self _ c.args.ids.now c.loop-id.id-index (omega arith) c.loop-id.invariant.rest
