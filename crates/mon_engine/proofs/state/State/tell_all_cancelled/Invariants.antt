use Rattle.mon_engine.proofs.StartLemmas.{IsToldUpTo}
use Rattle.mon_engine.proofs.state.State.tell_all_cancelled.Given as goal

abbrev pub invariant-loop-id : goal.invariant-loop-id
invariant-loop-id l = IsToldUpTo l.inventory l.fn.self l.self l.ids l.id-index
