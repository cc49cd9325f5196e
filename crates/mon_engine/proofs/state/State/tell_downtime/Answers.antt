use Rattle.mon_engine.proofs.state.State.tell_downtime.Goals as goal

pub returns : goal.returns
returns c = rw c.in_ok-notice.ensures at c.tell.ensures
