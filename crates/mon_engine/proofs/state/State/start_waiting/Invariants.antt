use Rattle.mon_downtime.specs.Events.{work}
use Rattle.mon_engine.proofs.StartLemmas.{IsStart}
use Rattle.mon_engine.proofs.state.State.start_waiting.Given as goal

abbrev pub invariant-waiting : goal.invariant-waiting
invariant-waiting l = IsStart l.inventory l.fn.self l.self l.object l.clock

abbrev pub decreases-waiting : goal.decreases-waiting
decreases-waiting l = work l.self.downtimes
