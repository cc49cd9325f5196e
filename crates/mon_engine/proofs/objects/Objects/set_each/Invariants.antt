use Rattle.std.proofs.Common.{◌≡◌, drop, length}
use Rattle.mon_engine.specs.Places.{changed_each}
use Rattle.mon_engine.specs.Objects.{with_setting}
use Rattle.mon_engine.proofs.objects.Objects.set_each.Given as goal

abbrev pub invariant-loop-object : goal.invariant-loop-object
invariant-loop-object l = record {
  rest : changed_each l.self (drop l.object-index l.objects) (with_setting l.setting) ≡ changed_each l.fn.self l.objects (with_setting l.setting);
  as_many : length l.self ≡ length l.fn.self;
}
