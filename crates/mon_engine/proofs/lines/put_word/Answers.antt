use Rattle.mon_engine.proofs.ReportLemmas.{grows_by, grows_on}
use Rattle.mon_engine.proofs.lines.put_word.Goals as goal

pub returns-clause-grown : goal.returns-clause-grown
returns-clause-grown c = grows_on _ _ _ (grows_by _ _ _ c.in_ok-extend_from_slice.ensures.items) c.put_fields.ensures.grown
