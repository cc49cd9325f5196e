use Rattle.mon_downtime.specs.Events.{work}
use Rattle.mon_engine.proofs.ClockLemmas.{IsTurn}
use Rattle.mon_engine.proofs.state.State.drain.Given as goal

abbrev pub invariant-due : goal.invariant-due
invariant-due l = IsTurn l.inventory l.fn.self l.self l.t

abbrev pub decreases-due : goal.decreases-due
decreases-due l = work l.self.downtimes
