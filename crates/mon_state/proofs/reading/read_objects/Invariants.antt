use Rattle.std.proofs.Common.{◌≡◌, ◌-◌, [], length, map}
use Rattle.mon_state.specs.declared.version.StateVersion.TheVariants.{One}
use Rattle.mon_state.specs.Reading.{many_at, next_known}
use Rattle.mon_state.specs.Upgrade.{upgraded_object}
use Rattle.mon_state.proofs.reading.read_objects.Given as goal

abbrev pub invariant-loop-spec : goal.invariant-loop-spec
invariant-loop-spec l = record {
  long : length l.objects.items ≡ l.spec-index;
  left : many_at (next_known l.version l.clock l.inventory.objects) (length l.inventory.objects - l.spec-index) l.objects.items l.cursor.rest ≡ many_at (next_known l.version l.clock l.inventory.objects) (length l.inventory.objects) [] l.fn.cursor.rest;
  first : l.version ≡ One → map (upgraded_object l.clock) l.objects.items ≡ l.objects.items;
}
