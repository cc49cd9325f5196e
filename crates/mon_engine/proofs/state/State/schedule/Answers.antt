use Rattle.std.proofs.Common.{rules}
use Rattle.mon_engine.proofs.state.State.schedule.Goals as goal

pub returns : goal.returns
unfolding Rattle.mon_engine.specs.Downtimes.after_schedule
returns c = search rules
