use Rattle.std.proofs.Common.{refl}
use Rattle.mon_engine.specs.Report.{rejected_line}
use Rattle.mon_engine.proofs.ReportLemmas.{grows_on, put_next, put_last}
use Rattle.mon_engine.proofs.report.put_rejections.Goals as goal

pub loop-rejection-preserved : goal.loop-rejection-preserved
loop-rejection-preserved c =
    let so_far = c.loop-rejection.invariant in
    record {
      put = put_next rejected_line c.args.rejections.now c.loop-rejection.rejection-index _ _ c.loop-rejection.out.items c.put_rejection.new.out.items _ c.loop-rejection-test.true refl so_far.put c.in_ok-put_rejection.ensures.ok;
      grown = grows_on _ _ _ so_far.grown c.put_rejection.ensures.grown;
    }

pub returns-in_err-put_rejection-clause-grown : goal.returns-in_err-put_rejection-clause-grown
returns-in_err-put_rejection-clause-grown c = grows_on _ _ _ c.loop-rejection.invariant.grown c.put_rejection.ensures.grown

pub returns-clause-ok : goal.returns-clause-ok
returns-clause-ok c = put_last rejected_line c.args.rejections.now c.loop-rejection.rejection-index c.loop-rejection.out.items _ c.loop-rejection-test.false c.loop-rejection.invariant.put
