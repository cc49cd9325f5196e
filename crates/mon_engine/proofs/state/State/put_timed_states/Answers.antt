use Rattle.mon_engine.proofs.ReportLemmas.{grows_on}
use Rattle.mon_engine.proofs.state.State.put_timed_states.Goals as goal

pub returns-in_err-put_program-clause-grown : goal.returns-in_err-put_program-clause-grown
returns-in_err-put_program-clause-grown c = grows_on _ _ _ c.put_clock.ensures.grown c.put_program.ensures.grown

pub returns-in_err-put_timed_objects-clause-grown : goal.returns-in_err-put_timed_objects-clause-grown
returns-in_err-put_timed_objects-clause-grown c = grows_on _ _ _ (grows_on _ _ _ c.put_clock.ensures.grown c.put_program.ensures.grown) c.put_timed_objects.ensures.grown

pub returns-clause-grown : goal.returns-clause-grown
returns-clause-grown c = grows_on _ _ _ (grows_on _ _ _ (grows_on _ _ _ c.put_clock.ensures.grown c.put_program.ensures.grown) c.put_timed_objects.ensures.grown) c.put_contacts.ensures.grown
