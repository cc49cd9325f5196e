use Rattle.mon_state.specs.State.{downtime_line}
use Rattle.mon_state.proofs.TextLemmas.{grows_on, put_next, put_last}
use Rattle.mon_state.proofs.writing.put_downtimes.Goals as goal

pub loop-downtime-preserved : goal.loop-downtime-preserved
loop-downtime-preserved c =
    let so_far = c.loop-downtime.invariant in
    record {
      put = put_next (downtime_line c.args.inventory.now.objects) c.args.downtimes.now c.loop-downtime.downtime-index c.downtime-item.result _ c.loop-downtime.out.items c.put_downtime.new.out.items _ c.loop-downtime-test.true c.downtime-item.is so_far.put c.in_ok-put_downtime.ensures.ok;
      grown = grows_on _ _ _ so_far.grown c.put_downtime.ensures.grown;
    }

pub returns-in_err-put_downtime-clause-grown : goal.returns-in_err-put_downtime-clause-grown
returns-in_err-put_downtime-clause-grown c = grows_on _ _ _ c.loop-downtime.invariant.grown c.put_downtime.ensures.grown

pub returns-clause-ok : goal.returns-clause-ok
returns-clause-ok c = put_last (downtime_line c.args.inventory.now.objects) c.args.downtimes.now c.loop-downtime.downtime-index c.loop-downtime.out.items _ c.loop-downtime-test.false c.loop-downtime.invariant.put
