use Rattle.mon_engine.specs.Report.{notice_line}
use Rattle.mon_engine.proofs.ReportLemmas.{grows_on, put_next, put_last}
use Rattle.mon_engine.proofs.notice_lines.put_notices.Goals as goal

pub loop-notice-preserved : goal.loop-notice-preserved
loop-notice-preserved c =
    let so_far = c.loop-notice.invariant in
    record {
      put = put_next (notice_line c.args.inventory.now) c.args.notices.now c.loop-notice.notice-index c.notice-item.result _ c.loop-notice.out.items c.put_notice.new.out.items _ c.loop-notice-test.true c.notice-item.is so_far.put c.in_ok-put_notice.ensures.ok;
      grown = grows_on _ _ _ so_far.grown c.put_notice.ensures.grown;
    }

pub returns-in_err-put_notice-clause-grown : goal.returns-in_err-put_notice-clause-grown
returns-in_err-put_notice-clause-grown c = grows_on _ _ _ c.loop-notice.invariant.grown c.put_notice.ensures.grown

pub returns-clause-ok : goal.returns-clause-ok
returns-clause-ok c = put_last (notice_line c.args.inventory.now) c.args.notices.now c.loop-notice.notice-index c.loop-notice.out.items _ c.loop-notice-test.false c.loop-notice.invariant.put
