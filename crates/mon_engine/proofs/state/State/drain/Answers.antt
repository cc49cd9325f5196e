use Rattle.std.proofs.Common.{sym, ap, List, subst}
use Rattle.mon_downtime.specs.declared.downtime.Downtime.{Downtime}
use Rattle.mon_engine.specs.Sound.{IsTimely}
use Rattle.mon_engine.specs.contracts.state.State.{the_view}
use Rattle.mon_engine.proofs.ClockLemmas.{turn_on, turn_last, event_timely}
use Rattle.mon_engine.proofs.state.State.drain.Goals as goal

pub returns-in-None : goal.returns-in-None
returns-in-None c =
    let w0 = the_view c.self.inside in
    turn_last c.law_of_the_clock.ensures.each c.args.inventory.now c.args.self.now w0 c.due.self _ c.args.t c.due.invariant c.self.view_is (sym c.in-None.ensures.event) (ap (λ (ds : List Downtime). record w0 { downtimes = ds }) c.in-None.ensures.none)

pub tell_event-requires : goal.tell_event-requires
tell_event-requires c =
    let w0 = the_view c.self.inside in
    event_timely c.args.inventory.now w0 c.in-Some.event c.take_event.new.self (subst (IsTimely c.args.inventory.now) (sym c.self.view_is) c.due.invariant.timely) c.in-Some.ensures.applied

pub due-preserved : goal.due-preserved
due-preserved c =
    turn_on c.law_of_the_clock.ensures.each c.args.inventory.now c.args.self.now (the_view c.self.inside) c.due.self c.tell_event.new.self c.args.t c.in-Some.event c.take_event.new.self c.due.invariant c.self.view_is (sym c.in-Some.ensures.event) c.in-Some.ensures.applied c.in_ok-tell_event-in-Some.ensures
