use Rattle.std.proofs.Common.{◌≡◌, ◌∙◌, ap, ℕ, max}
use Rattle.mon_engine.specs.World.{World}
use Rattle.mon_engine.specs.Clock.{drained, advanced}
use Rattle.mon_engine.proofs.state.State.advance.Goals as goal

pub returns : goal.returns
unfolding advanced
returns c =
    let e = c.self-2.view_is ∙ c.in_ok-drain.ensures in
    let n : c.max-clock.result ≡ max c.args.self.now.clock c.args.t = c.max-clock.ensures ∙ ap (λ (w : World). max w.clock c.args.t) c.self.view_is in
    ap (λ (w : World). record w { clock = c.max-clock.result }) e ∙ ap (λ (k : ℕ). record (drained c.args.inventory.now c.args.self.now c.args.t) { clock = k }) n
