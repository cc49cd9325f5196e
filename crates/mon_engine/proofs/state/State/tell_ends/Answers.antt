use Rattle.std.proofs.Common.{ap, sym, ◌∙◌, subst}
use Rattle.mon_engine.specs.Ends.{told_end}
use Rattle.mon_engine.specs.Sound.{IsOwing, IsTellable}
use Rattle.mon_engine.specs.World.{World}
use Rattle.mon_engine.proofs.EndLemmas.{ends_next}
use Rattle.mon_engine.proofs.SoundLemmas.{end_owing, end_tellable}
use Rattle.mon_engine.proofs.state.State.tell_ends.Goals as goal

pub loop-object-preserved : goal.loop-object-preserved
loop-object-preserved c = record {
  told = c.in_ok-tell_end.ensures ∙ ap (λ (x : World). told_end c.args.inventory.now x c.loop-object.object) c.loop-object.invariant.told ∙ sym (ends_next c.args.inventory.now c.args.self.now c.loop-object.object);
  owing = subst (λ (x : World). IsOwing c.args.inventory.now x.owed) (sym c.in_ok-tell_end.ensures) (end_owing c.args.inventory.now c.loop-object.self c.loop-object.object c.loop-object.invariant.owing);
  tellable = subst (IsTellable c.args.inventory.now) (sym c.in_ok-tell_end.ensures) (end_tellable c.args.inventory.now c.loop-object.self c.loop-object.object c.loop-object.invariant.tellable);
}
