use Rattle.std.proofs.Common.{◌≡◌}
use Rattle.mon_engine.specs.Ends.{told_ends_among}
use Rattle.mon_engine.specs.Sound.{IsOwing, IsTellable}
use Rattle.mon_engine.proofs.state.State.tell_ends.Given as goal

abbrev pub invariant-loop-object : goal.invariant-loop-object
invariant-loop-object l = record {
  told : l.self ≡ told_ends_among l.inventory l.fn.self l.object;
  owing : IsOwing l.inventory l.self.owed;
  tellable : IsTellable l.inventory l.self;
}
