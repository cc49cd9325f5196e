use Rattle.std.proofs.Common.{rules}
use Rattle.mon_engine.proofs.ReportLemmas.{grows_on}
use Rattle.mon_engine.proofs.state.State.put_lists.Goals as goal

pub returns-in_err-put_downtimes-clause-grown : goal.returns-in_err-put_downtimes-clause-grown
returns-in_err-put_downtimes-clause-grown c = grows_on _ _ _ c.put_comments.ensures.grown c.put_downtimes.ensures.grown

pub returns-in_err-put_rejections-clause-grown : goal.returns-in_err-put_rejections-clause-grown
returns-in_err-put_rejections-clause-grown c = grows_on _ _ _ (grows_on _ _ _ c.put_comments.ensures.grown c.put_downtimes.ensures.grown) c.put_rejections.ensures.grown

pub returns-clause-grown : goal.returns-clause-grown
returns-clause-grown c = grows_on _ _ _ (grows_on _ _ _ (grows_on _ _ _ c.put_comments.ensures.grown c.put_downtimes.ensures.grown) c.put_rejections.ensures.grown) c.put_notices.ensures.grown

pub returns-clause-ok : goal.returns-clause-ok
returns-clause-ok c = search rules
