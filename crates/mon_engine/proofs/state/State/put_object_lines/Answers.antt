use Rattle.mon_engine.proofs.ReportLemmas.{grows_on}
use Rattle.mon_engine.proofs.state.State.put_object_lines.Goals as goal

pub returns-clause-grown : goal.returns-clause-grown
returns-clause-grown c = grows_on _ _ _ c.put_object_at.ensures.grown c.put_times.ensures.grown
