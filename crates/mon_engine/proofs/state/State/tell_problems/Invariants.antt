use Rattle.std.proofs.Common.{◌≡◌}
use Rattle.mon_engine.specs.ByClock.{told_among}
use Rattle.mon_engine.proofs.state.State.tell_problems.Given as goal

abbrev pub invariant-loop-object : goal.invariant-loop-object
invariant-loop-object l = l.self ≡ told_among l.inventory l.fn.self l.object
