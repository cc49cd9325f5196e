use Rattle.std.proofs.Common.{◌≡◌, Bool, true, if◌then◌else◌, List, slice_get, ap, sym, ◌∙◌}
use Rattle.mon_engine.specs.World.{World}
use Rattle.mon_downtime.specs.declared.downtime.Downtime.{Downtime}
use Rattle.mon_engine.specs.Results.{is_hard_problem, started_all}
use Rattle.mon_engine.specs.contracts.state.State.{the_view}
use Rattle.mon_engine.proofs.StartLemmas.{start_first, start_on, start_last, start_timely}
use Rattle.mon_engine.proofs.state.State.start_waiting.Goals as goal

pub waiting-init : goal.waiting-init
waiting-init c = start_first c.args.inventory.now c.args.self.now c.args.object _ (ap (λ (w : World). w.clock) c.self.view_is) c.requires.timely

pub returns-in-None : goal.returns-in-None
returns-in-None c =
    let w0 = the_view c.self-in-waiting.inside in
    let hard : is_hard_problem (slice_get c.args.self.now.objects c.args.object) ≡ true = ap (λ (w : World). is_hard_problem (slice_get w.objects c.args.object)) (sym c.self.view_is) ∙ ap is_hard_problem c.get.ensures ∙ sym c.is_hard_problem.ensures ∙ c.if-not-is_hard_problem.false in
    start_last c.all_that_wait_start.ensures.each c.args.inventory.now c.args.self.now w0 c.waiting.self _ c.args.object _ c.waiting.invariant c.self-in-waiting.view_is c.in-None.ensures.id (ap (λ (ds : List Downtime). record w0 { downtimes = ds }) c.in-None.ensures.none)
    ∙ ap (λ (b : Bool). if b then started_all c.args.inventory.now c.args.self.now c.args.object else c.args.self.now) (sym hard)

pub tell_downtime-requires-clause-tellable : goal.tell_downtime-requires-clause-tellable
tell_downtime-requires-clause-tellable c = start_timely c.args.inventory.now c.args.self.now (the_view c.self-in-waiting.inside) c.waiting.self c.args.object _ _ c.waiting.invariant c.self-in-waiting.view_is

pub waiting-preserved : goal.waiting-preserved
waiting-preserved c =
    start_on c.all_that_wait_start.ensures.each c.args.inventory.now c.args.self.now (the_view c.self-in-waiting.inside) c.waiting.self c.tell_downtime.new.self c.args.object _ _ c.problem_seen.new.self c.waiting.invariant c.self-in-waiting.view_is c.in-Some.ensures.id c.problem_seen.ensures.started c.problem_seen.ensures.records c.in_ok-tell_downtime-in-Some.ensures
