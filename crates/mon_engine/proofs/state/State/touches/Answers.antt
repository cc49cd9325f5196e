use Rattle.std.proofs.Common.{Bool, if◌then◌else◌, ap, sym, ◌∙◌}
use Rattle.mon_notify.specs.Objects as option
use Rattle.mon_engine.specs.declared.by_clock.Touched.TheVariants as touched
use Rattle.mon_engine.specs.Effects.{shown}
use Rattle.mon_engine.specs.Wakes.{host_view, touches}
use Rattle.mon_engine.proofs.state.State.touches.Goals as goal

pub returns-else-is_some-clause-touches : goal.returns-else-is_some-clause-touches
returns-else-is_some-clause-touches c =
    let x = c.in-CheckResult.object in
    ap (touched.Host x) c.host_view.ensures
    ∙ sym (ap (λ a. touches c.args.inventory.now c.args.self.now (shown a)) c.in-CheckResult.is
    ∙ ap (λ (b : Bool). if b then touched.One x else touched.Host x (host_view c.args.self.now x)) (ap option.is_service c.object.ensures.value ∙ sym c.is_some.ensures ∙ c.if-is_some.false))
