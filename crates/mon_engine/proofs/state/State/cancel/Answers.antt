use Rattle.std.proofs.Common.{sym, subst}
use Rattle.mon_engine.specs.Sound.{IsTimely}
use Rattle.mon_engine.specs.contracts.state.State.{the_view}
use Rattle.mon_engine.proofs.ClockLemmas.{cancelled_timely}
use Rattle.mon_engine.proofs.state.State.cancel.Goals as goal

pub tell_all_cancelled-requires : goal.tell_all_cancelled-requires
tell_all_cancelled-requires c =
    cancelled_timely c.args.inventory.now (the_view c.self.inside) c.args.id c.cancel.new.self (subst (IsTimely c.args.inventory.now) (sym c.self.view_is) c.requires.timely) c.in_ok-ids.ensures.ok
