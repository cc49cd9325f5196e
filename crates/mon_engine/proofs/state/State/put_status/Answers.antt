use Rattle.std.proofs.lemmas.Result.{on_ok_weaker}
use Rattle.mon_engine.specs.Status.{status}
use Rattle.mon_engine.proofs.ReportLemmas.{grows_on, grown_by_both}
use Rattle.mon_engine.proofs.state.State.put_status.Goals as goal

pub returns-clause-ok : goal.returns-clause-ok
unfolding status
returns-clause-ok c = on_ok_weaker c.put_lists.result (grown_by_both _ _ _ _ _ _ _ _ _ _ _ c.in_ok-put_timed_states.ensures.ok) c.put_lists.ensures.ok

pub returns-clause-grown : goal.returns-clause-grown
returns-clause-grown c = grows_on _ _ _ c.put_timed_states.ensures.grown c.put_lists.ensures.grown
