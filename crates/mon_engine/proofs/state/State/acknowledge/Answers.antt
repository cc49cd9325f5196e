use Rattle.std.proofs.Common.{rules}
use Rattle.mon_engine.proofs.state.State.acknowledge.Goals as goal

pub returns-in_ok-tell_acknowledged : goal.returns-in_ok-tell_acknowledged
unfolding Rattle.mon_engine.specs.Acknowledgements.after_acknowledge
returns-in_ok-tell_acknowledged c = search rules
